-- What the commands on the objects of an image make.
use Rattle.std.specs.Prelude.{◌≡◌, ◌≢◌, ℕ, List, length, flat_map, Some, None}
use Rattle.lo_base.specs.declared.refusal.Refusal.{Refusal}
use Rattle.lo_base.specs.declared.reply.Reply.TheVariants.{Refused}
use Rattle.lo_base.specs.declared.request.Request.{Request}
use Rattle.lo_base.specs.declared.request.Request.TheVariants.{LoUnlink}
use Rattle.lo_image.specs.Image.{image}
use Rattle.lo_machine.specs.Committed.{committed_opening}
use Rattle.lo_machine.specs.Run.{start_from}
use Rattle.lo_machine.specs.State.{State}
use Rattle.lo_machine.specs.Step.{reply_to, state_after}
use Rattle.lo_model.specs.Opening.{ObjectBytes, Opening}
use Rattle.lo_opening.specs.Meaning.{data_of, opening_of}
use Rattle.lo_opening.specs.Opening.{OpeningData}
use Rattle.lo_tool.specs.Images.{IsKept}
use Rattle.lo_tool.specs.Made.{Made, saved_under}
use Rattle.lo_tool.specs.Outside.{FilesState}
use Rattle.lo_tool.specs.Texts.{object_line, refusal_line, unlinked_line}

-- the objects with their sizes, by ascending number
abbrev pub listed_object : ObjectBytes → List ℕ
listed_object o = object_line o.oid (length o.bytes)

abbrev pub listed : Opening → List ℕ
listed opening = flat_map listed_object opening.objects

-- What `list IMAGE` makes: a line for each object of the image. Nothing is saved.
pub record ListsImage (files : FilesState) (image_name : List ℕ) (made : Made) : Type 0 where
  pub opening : OpeningData
  pub kept : IsKept files image_name opening
  pub text : made.text ≡ listed (opening_of opening)
  pub unsaved : made.saved ≡ None

-- the state in which the first request on an opening's database is done, by session 1
abbrev pub begun : Opening → State
begun opening = (start_from opening).state

-- One request of session 1 on an opening's database was granted, and this is what is committed then.
pub record IsGranted (opening : Opening) (request : Request) (left : Opening) : Type 0 where
  pub granted : (refusal : Refusal) → reply_to (begun opening) 1 request ≢ Refused refusal
  pub committed : left ≡ committed_opening opening.blocks (state_after (begun opening) 1 request)

-- One was refused, with the line that says so.
pub record RefusesRequest (opening : Opening) (request : Request) (line : List ℕ) : Type 0 where
  pub refusal : Refusal
  pub refused : reply_to (begun opening) 1 request ≡ Refused refusal
  pub said : line ≡ refusal_line refusal

-- What `unlink IMAGE OID` makes, where the object is removed: its line, and the image without it.
pub record UnlinksObject (files : FilesState) (image_name : List ℕ) (oid : ℕ) (made : Made) : Type 0 where
  pub opening : OpeningData
  pub kept : IsKept files image_name opening
  pub left : Opening
  pub granted : IsGranted (opening_of opening) (LoUnlink oid) left
  pub text : made.text ≡ unlinked_line oid
  pub saved : made.saved ≡ Some (saved_under image_name (image (data_of left)))

-- The removal was refused, with the line that says so.
pub record RefusesUnlink (files : FilesState) (image_name : List ℕ) (oid : ℕ) (line : List ℕ) : Type 0 where
  pub opening : OpeningData
  pub kept : IsKept files image_name opening
  pub by : RefusesRequest (opening_of opening) (LoUnlink oid) line
