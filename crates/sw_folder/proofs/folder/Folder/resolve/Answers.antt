use Rattle.sw_folder.proofs.Choices.{resolved-answer}
use Rattle.sw_folder.proofs.folder.Folder.resolve.Goals as goal

pub returns : goal.returns
returns c = rw c.or_not_found.ensures (resolved-answer c.args.self.now c.args.from.now c.args.url.now c.args.paths.now c.on_bases.result c.on_bases.ensures)
