use Rattle.std.proofs.Common.{rules}
use Rattle.sw_hosts.proofs.Whole.{whole, on_err}
use Rattle.sw_hosts.proofs.boxed.BoxDynHostFnHostFn.call.Goals as goal

pub returns-clause-kept : goal.returns-clause-kept
returns-clause-kept g c =
    on_err c.call.result
    (λ h. whole (λ i v. record { ptr = c.args.self.now.ptr; vtable = i; alloc = c.args.self.now.alloc; value = v }) _
    c.args.self.now.vtable _ c.call.new.self c.args.self.now.value (search rules) h)
    c.call.ensures.1.1.1.0
