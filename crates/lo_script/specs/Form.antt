-- The forms of requests: a word, and tokens that spell the arguments.
use Rattle.std.specs.Prelude.{ℕ, pos, Bool, true, false, List, [], ◌∷◌, Some, None, if◌then◌else◌, codes, bytes_eq}
use Rattle.lo_base.specs.declared.request.Request.{Request}
use Rattle.lo_base.specs.declared.request.Request.TheVariants.{Begin, Commit, Rollback, Savepoint, Release, RollbackTo, LoCreat, LoCreate, LoOpen, LoClose, LoRead, LoWrite, LoLseek, LoLseek64, LoTell, LoTell64, LoTruncate, LoTruncate64, LoUnlink, LoGet, LoPut, LoFromBytea, Vacuum}
use Rattle.lo_machine.specs.Spelled.{bytes_limit}
use Rattle.lo_script.specs.Reader.{Reader, Form, form, first_token, no_token, one_token, two_tokens, three_tokens, none_or}
use Rattle.lo_script.specs.Reading.{BadAt}
use Rattle.lo_script.specs.SweepForm.{sweep_forms, vacuumlo_of}
use Rattle.lo_script.specs.TableForm.{table_forms}
use Rattle.lo_script.specs.Token.{column_after, oid_of, int4_of, int8_of, bytes_of, name_of, keyword_of, begins}

-- rollback, or rollback to NAME
abbrev pub rollback_of : Reader Request
rollback_of = none_or Rollback (two_tokens (keyword_of (codes "to")) name_of (λ _ name. RollbackTo name))

-- lo_get OID, which is all bytes from the first on, or lo_get OID INT8 LEN4
abbrev pub get_of : Reader Request
get_of = first_token oid_of (λ oid. none_or (LoGet oid (pos 0) None) (two_tokens int8_of int4_of (λ from length. LoGet oid from (Some length))))

-- the forms of requests on open large objects
abbrev pub descriptor_forms : List Form
descriptor_forms =
    form (codes "lo_close") (one_token int4_of LoClose)
    ∷ form (codes "lo_read") (two_tokens int4_of int4_of LoRead)
    ∷ form (codes "lo_write") (two_tokens int4_of (bytes_of bytes_limit) LoWrite)
    ∷ form (codes "lo_lseek") (three_tokens int4_of int4_of int4_of LoLseek)
    ∷ form (codes "lo_lseek64") (three_tokens int4_of int8_of int4_of LoLseek64)
    ∷ form (codes "lo_tell") (one_token int4_of LoTell)
    ∷ form (codes "lo_tell64") (one_token int4_of LoTell64)
    ∷ form (codes "lo_truncate") (two_tokens int4_of int4_of LoTruncate)
    ∷ form (codes "lo_truncate64") (two_tokens int4_of int8_of LoTruncate64)
    ∷ []

-- the forms of requests on large objects, whose words all begin with `lo_`
abbrev pub large_object_forms : List Form
large_object_forms =
    form (codes "lo_creat") (one_token int4_of LoCreat)
    ∷ form (codes "lo_create") (one_token oid_of LoCreate)
    ∷ form (codes "lo_open") (two_tokens oid_of int4_of LoOpen)
    ∷ form (codes "lo_unlink") (one_token oid_of LoUnlink)
    ∷ form (codes "lo_get") get_of
    ∷ form (codes "lo_put") (three_tokens oid_of int8_of (bytes_of bytes_limit) LoPut)
    ∷ form (codes "lo_from_bytea") (two_tokens oid_of (bytes_of bytes_limit) LoFromBytea)
    ∷ descriptor_forms

-- the other forms: those of transactions, the beginning of a clean-up, and then those of tables and of array variables
abbrev pub other_forms : List Form
other_forms =
    form (codes "begin") (no_token Begin)
    ∷ form (codes "commit") (no_token Commit)
    ∷ form (codes "rollback") rollback_of
    ∷ form (codes "savepoint") (one_token name_of Savepoint)
    ∷ form (codes "release") (one_token name_of Release)
    ∷ form (codes "vacuum") (no_token Vacuum)
    ∷ form (codes "vacuumlo") vacuumlo_of
    ∷ table_forms

-- the forms among which a word is looked for: inside a clean-up those of its lines alone, which stand nowhere else
abbrev pub forms_of : (in_sweep : Bool) → (word : List ℕ) → List Form
forms_of true word = sweep_forms
forms_of false word = if begins (codes "lo_") word then large_object_forms else other_forms

-- what the form with that word reads, if it is one of these. The word begins at `start`, the arguments after it at `column`
abbrev pub form_in : List Form → (word : List ℕ) → (start : ℕ) → Reader Request
form_in [] word start column arguments = BadAt start
form_in (f ∷ more) word start column arguments = if bytes_eq word f.word then f.request column arguments else form_in more word start column arguments

abbrev pub request_of : (in_sweep : Bool) → Reader Request
request_of in_sweep start [] = BadAt start
request_of in_sweep start (word ∷ arguments) = form_in (forms_of in_sweep word) word start (column_after start word arguments) arguments
