-- The texts in replies.
use Rattle.std.specs.Prelude.{◌≡◌, ℕ, List}
use Rattle.std.specs.List.{AllByRecursion}
use Rattle.expanded_array.specs.Array.{Array}
use Rattle.expanded_array.specs.Text.{array_text}
use Rattle.lo_base.specs.declared.reply.Reply.{Reply}
use Rattle.lo_base.specs.declared.reply.Reply.TheVariants.{Row, Text}
use Rattle.lo_base.specs.declared.value.Cell.{Cell}
use Rattle.lo_base.specs.declared.value.Cell.TheVariants as cells

-- the text of an array
pub record IsArrayText (text : List ℕ) : Type 0 where
  pub array : Array
  pub printed : text ≡ array_text array

-- each text in a cell, and in a reply, is an array's

abbrev pub HasArrayText : Cell → Type 0
HasArrayText (cells.Text text) = IsArrayText text
HasArrayText _ = Unit {0}

abbrev pub HasArrayTexts : Reply → Type 0
HasArrayTexts (Row row) = AllByRecursion HasArrayText row
HasArrayTexts (Text text) = IsArrayText text
HasArrayTexts _ = Unit {0}
