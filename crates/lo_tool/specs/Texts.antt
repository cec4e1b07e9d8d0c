-- What is printed to standard error.
use Rattle.std.specs.Prelude.{ℕ, List, ◌++◌, codes, decimal}
use Rattle.lo_base.specs.declared.refusal.Refusal.{Refusal}
use Rattle.lo_opening.specs.declared.opening.ObjectData.{ObjectData}
use Rattle.lo_script.specs.ReplyText.{error_text}
use Rattle.lo_image.specs.declared.fault.BadImage.{BadImage}
use Rattle.lo_image.specs.declared.fault.Defect.{Defect}
use Rattle.lo_image.specs.declared.fault.Defect.TheVariants.{Magic, Short, Range, Order, Mismatch, Plan, Array, Extra}

abbrev pub usage_line : List ℕ
usage_line = codes "usage: lo_tool init|script|threads|vacuumlo|import|export|list|unlink|gen\n"

abbrev pub fault_line : List ℕ
fault_line = codes "lo_tool: input or output failed\n"

-- what is wrong with a file
abbrev pub line_about : (name what : List ℕ) → List ℕ
line_about name what = codes "lo_tool: " ++ name ++ codes ": " ++ what ++ codes "\n"

abbrev pub missing : List ℕ
missing = codes "no such file"

abbrev pub too_long : List ℕ
too_long = codes "too long"

abbrev pub bad_line_text : (line column : ℕ) → List ℕ
bad_line_text line column = codes "line " ++ decimal line ++ codes " column " ++ decimal column

abbrev pub file_exists : List ℕ
file_exists = codes "file exists"

abbrev pub defect_name : Defect → List ℕ
defect_name Magic = codes "Magic"
defect_name Short = codes "Short"
defect_name Range = codes "Range"
defect_name Order = codes "Order"
defect_name Mismatch = codes "Mismatch"
defect_name Plan = codes "Plan"
defect_name Array = codes "Array"
defect_name Extra = codes "Extra"

-- where an image is wrong, counted in bytes from 0, and how
abbrev pub bad_image_text : BadImage → List ℕ
bad_image_text bad = codes "bad image at " ++ decimal bad.offset ++ codes ": " ++ defect_name bad.kind

-- that a request was refused
abbrev pub refusal_line : Refusal → List ℕ
refusal_line refusal = codes "lo_tool: " ++ error_text refusal ++ codes "\n"

-- an object of a list: its number and its size
abbrev pub object_line : (oid size : ℕ) → List ℕ
object_line oid size = decimal oid ++ codes " " ++ decimal size ++ codes "\n"

abbrev pub data_line : ObjectData → List ℕ
data_line o = object_line o.oid o.size

-- that an object was removed
abbrev pub unlinked_line : (oid : ℕ) → List ℕ
unlinked_line oid = codes "lo_unlink " ++ decimal oid ++ codes "\n"
