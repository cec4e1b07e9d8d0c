-- A list of objects tells of their bytes.
use Rattle.std.proofs.Common.{◌≡◌, ℕ, ◌+◌, List, [], ◌∷◌, ◌++◌, length, map, refl, ap, sym, ◌∙◌}
use Rattle.std.specs.Prelude.{flat_map}
use Rattle.lo_opening.specs.declared.opening.ObjectData.{ObjectData}
use Rattle.lo_opening.specs.Meaning.{bytes_of, object_of}
use Rattle.lo_opening.specs.Opening.{AreObjects, blocks_held}
use Rattle.lo_opening.proofs.BlockLaws.{size_is}
use Rattle.lo_tool.specs.Objects.{listed_object}
use Rattle.lo_tool.specs.Texts.{data_line, object_line}

pub all_listed : (least held : ℕ) (os : List ObjectData) → AreObjects least held os → flat_map data_line os ≡ flat_map listed_object (map object_of os)
all_listed least held [] are = refl
all_listed least held (o ∷ os) are =
    ap (λ (size : ℕ). object_line o.oid size ++ flat_map data_line os) (sym (size_is o.oid o.size o.stored are.0.stored))
    ∙ ap (λ (rest : List ℕ). object_line o.oid (length (bytes_of o)) ++ rest) (all_listed (o.oid + 1) (held + blocks_held o) os are.2)
