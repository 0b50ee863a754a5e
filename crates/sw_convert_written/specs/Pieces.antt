-- Texts in which values stand, as they are written.
use Rattle.std.specs.Prelude.{ℕ, Bool, true, false, not, ◌&&◌, ◌||◌, ◌==◌, if◌then◌else◌, List, [], ◌∷◌, ◌++◌, Option, Some, None, codes}
use Rattle.sw_text_scan.specs.Bytes.{sign, is_white}
use Rattle.sw_text_scan.specs.declared.signs.TheConstants.{LINE_FEED, CARRIAGE_RETURN}
use Rattle.sw_convert_written.specs.declared.manner.Manner.{Manner}
use Rattle.sw_convert_written.specs.declared.manner.Manner.TheVariants as manners
use Rattle.sw_convert_written.specs.Escapes.{behind, takes_white, apart, ends_unclosed}
use Rattle.sw_convert_spelling.specs.Strings.{escaped}

-- a piece with the text of its value
pub data Written : Type 0 where
  Said : List ℕ → Written
  -- in `#{}`
  Inserted : List ℕ → Written
  -- by itself
  Value : List ℕ → Written

-- a text as it stands, and one in a string
abbrev pub said_text : Manner → List ℕ → List ℕ
said_text manners.Quoted text = escaped text
said_text _ text = text

abbrev pub piece_text : Manner → Written → List ℕ
piece_text manner (Said text) = said_text manner text
piece_text manner (Inserted value) = codes "#{" ++ (value ++ codes "}")
piece_text manner (Value value) = value

-- a text begins with white space
abbrev pub begins_white : List ℕ → Bool
begins_white [] = false
begins_white (b ∷ bytes) = is_white b

-- no byte of a value joins such a byte before it
abbrev pub is_loose_end : ℕ → Bool
is_loose_end b =
    is_white b
    || ((b == sign ",") || ((b == sign "(") || ((b == sign "[") || ((b == sign "/") || (b == sign "*")))))

-- and none such a byte behind it
abbrev pub is_loose_start : ℕ → Bool
is_loose_start b =
    is_white b
    || ((b == sign ",") || ((b == sign ")") || ((b == sign "]") || ((b == sign "/") || (b == sign "*")))))

-- a byte belongs to the escape that is open before it, or to one whose carriage return stands there
abbrev pub is_taken : Option ℕ → Bool → ℕ → Bool
is_taken None returned b = returned && (b == LINE_FEED)
is_taken (Some digits) returned b = (digits == 0) || is_white b

-- the last byte is such a byte and belongs to no escape, where the one before the text is or not
abbrev pub ends_loose_from : Option ℕ → Bool → Bool → List ℕ → Bool
ends_loose_from escape returned loose [] = loose
ends_loose_from escape returned loose (b ∷ bytes) =
    ends_loose_from (behind escape b) (takes_white escape && (b == CARRIAGE_RETURN))
    (is_loose_end b && not (is_taken escape returned b)) bytes

abbrev pub ends_loose : List ℕ → Bool
ends_loose = ends_loose_from None false false

abbrev pub begins_loose : List ℕ → Bool
begins_loose [] = false
begins_loose (b ∷ bytes) = is_loose_start b

-- between two pieces of a raw or special text an empty comment stands where one was dropped between two texts, and where
-- a value would join what stands beside it
abbrev pub is_seam : Written → Written → Bool
is_seam (Said text) (Said other) = true
is_seam (Said text) (Value value) = not (ends_loose text)
is_seam (Inserted insert) (Value value) = true
is_seam (Value value) (Value other) = true
is_seam (Value value) (Said text) = not (begins_loose text) || (begins_white text && ends_unclosed value)
is_seam _ _ = false

-- between two pieces of queries one stands where the first would take the space of the other
abbrev pub is_parting : Written → Written → Bool
is_parting (Said text) (Said other) = begins_white other && ends_unclosed text
is_parting (Value value) (Said text) = begins_white text && ends_unclosed value
is_parting _ _ = false

abbrev pub is_parted : Manner → Written → Written → Bool
is_parted manners.Seamed piece next = is_seam piece next
is_parted manners.Queried piece next = is_parting piece next
is_parted _ piece next = false

abbrev pub between : Manner → Written → Written → List ℕ
between manner piece next = if is_parted manner piece next then apart else []

-- pieces behind one another
abbrev pub pieces_text : Manner → List Written → List ℕ
pieces_text manner [] = []
pieces_text manner (piece ∷ []) = piece_text manner piece
pieces_text manner (piece ∷ next ∷ pieces) =
    piece_text manner piece ++ (between manner piece next ++ pieces_text manner (next ∷ pieces))
