-- How a command ends whose text and image are made.
use Rattle.std.specs.Prelude.{◌≡◌, Some}
use Rattle.lo_outside.specs.Faults.{Rose}
use Rattle.lo_tool.specs.declared.run.Status.{Status}
use Rattle.lo_tool.specs.declared.run.Status.TheVariants.{Fault, NoMemory}
use Rattle.lo_tool.specs.Made.{FilesAre, LeavesImage, Made, Saved}
use Rattle.lo_tool.specs.Outside.{Outside}
use Rattle.lo_tool.specs.Printing.{Complains, Prints}
use Rattle.lo_tool.specs.Texts.{fault_line}

-- The image is saved, if one was made, and the text printed, or standard output failed in it. Or a file failed in the saving, or
-- memory was wanting for it; then nothing was printed.
pub data Finishes (made : Made) (before after : Outside) (result : Status) : Type 0 where
  Saved_ :
      FilesAre made.saved before.files after.files → after.files.faults ≡ before.files.faults →
      Prints made.text before.out after.out before.err after.err result →
      Finishes made before after result
  Unsaved :
      (saved : Saved) → made.saved ≡ Some saved → LeavesImage saved.name before.files after.files →
      Rose before.files.faults after.files.faults → after.out ≡ before.out →
      Complains fault_line Fault before.err after.err result →
      Finishes made before after result
  Starved :
      result ≡ NoMemory → after.files.folder ≡ before.files.folder →
      after.files.faults ≡ before.files.faults → after.out ≡ before.out → after.err ≡ before.err →
      Finishes made before after result
