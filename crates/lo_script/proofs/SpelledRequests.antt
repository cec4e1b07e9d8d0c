-- Which tokens spell a request: what the grammar reads, and back.
use Rattle.std.proofs.Common.{◌≡◌, ℕ, ◌≤◌, Bool, true, false, List, [], ◌∷◌, ◌++◌, map, Some, None, refl, inl, inr, subst, arith}
use Rattle.std.specs.Prelude.{bytes_eq, codes}
use Rattle.std.specs.Fmt.{signed_decimal}
use Rattle.std.specs.List.{AllByRecursion}
use Rattle.std.proofs.lemmas.Slice.Eq.{bytes_eq-Decides}
use Rattle.hex.specs.Hex.{IsBytes}
use Rattle.lo_base.specs.Name.{IsName}
use Rattle.lo_base.specs.declared.column.ColType.TheVariants.{Bytea}
use Rattle.lo_base.specs.declared.column.Column.{Column}
use Rattle.lo_base.specs.declared.request.Request.{Request}
use Rattle.lo_base.specs.declared.request.Request.TheVariants.{Begin, Commit, Rollback, Savepoint, Release, RollbackTo, LoCreat, LoCreate, LoOpen, LoClose, LoRead, LoWrite, LoLseek, LoLseek64, LoTell, LoTell64, LoTruncate, LoTruncate64, LoUnlink, LoGet, LoPut, LoFromBytea, CreateTable, Insert, Update, Delete, Get, Ids, Slice, Declare, Fetch, Close, Rewrite, Vacuum, Array, Load, Set, Elem, Show, Vacuumlo, Step, Finish}
use Rattle.lo_machine.specs.Program.{program_of}
use Rattle.lo_machine.specs.Spelled.{IsSpelled, bytes_limit}
use Rattle.lo_script.specs.declared.script.Marking.{Marking}
use Rattle.lo_script.specs.declared.script.Marking.TheVariants.{Marked, Unmarked}
use Rattle.lo_script.specs.Form.{rollback_of, other_forms, large_object_forms, form_in, request_of}
use Rattle.lo_script.specs.Reader.{Form, no_token, one_token, two_tokens}
use Rattle.lo_script.specs.Reading.{Read}
use Rattle.lo_script.specs.Script.{entry_by, request_by}
use Rattle.lo_script.specs.SpelledValues.{IsLiteralInRange, IsChangeInRange, SpellAll, SpellsBytes, SpellsLiteral, SpellsColumn, SpellsStorage, SpellsChange}
use Rattle.lo_script.specs.Spelling.{HasRanges, SpellRest, SpellsServed, HasSpelling, printed}
use Rattle.lo_script.specs.SweepForm.{is_in_sweep, is_of_sweep, sweep_forms}
use Rattle.lo_script.specs.Token.{TokenList, column_after, name_of, keyword_of, begins, session_of, tokens_of}
use Rattle.lo_script.proofs.DecimalsAndBytes.{tested, int4_of-decimal, int8_of-decimal, limit_of-decimal, oid_of-decimal, bytes_of-spelled}
use Rattle.lo_script.proofs.ExactForms.{IsPrinted, IsPrintedIn, IsExact, IsExactIn, plainly, ◌also◌}
use Rattle.lo_script.proofs.LargeObjectForms.{large_objects-exact}
use Rattle.lo_script.proofs.MarksAndNames.{name_of-prints, session-some, spelled_name, keyword_of-is}
use Rattle.lo_script.proofs.PrintedValues.{bytes_print, bytes_spelled, column_print, column_spelled, literal_print, literal_spelled, change_print, change_spelled, storage_print, storage_spelled}
use Rattle.lo_script.proofs.ReadLists.{one_token_of, all_printed}
use Rattle.lo_script.proofs.Readers.{Finds, read_injective, read_and-some, first_token-some, no_token-finds, none_or-finds, one_token-finds, two_tokens-finds}
use Rattle.lo_script.proofs.SweepForms.{vacuumlo-exact, sweeps-exact, limit-unmarked}
use Rattle.lo_script.proofs.TableForms.{tables-exact, create_of-spelled, insert_of-spelled, update_of-spelled, rewrite_of-spelled}
use Rattle.lo_script.proofs.ValueTokens.{array_text_of-spelled, element_of-spelled}

begin-exact : Finds (no_token Begin) (IsPrinted (codes "begin"))
begin-exact = no_token-finds (IsPrinted (codes "begin")) Begin (refl, (tt, tt, plainly refl refl))

commit-exact : Finds (no_token Commit) (IsPrinted (codes "commit"))
commit-exact = no_token-finds (IsPrinted (codes "commit")) Commit (refl, (tt, tt, plainly refl refl))

vacuum-exact : Finds (no_token Vacuum) (IsPrinted (codes "vacuum"))
vacuum-exact = no_token-finds (IsPrinted (codes "vacuum")) Vacuum (refl, (tt, tt, plainly refl refl))

savepoint-exact : Finds (one_token name_of Savepoint) (IsPrinted (codes "savepoint"))
savepoint-exact = one_token-finds (IsPrinted (codes "savepoint")) name_of Savepoint (λ token name is. let n = name_of-prints token name is in (refl, (n.named, tt, plainly refl (rw n.is refl))))

release-exact : Finds (one_token name_of Release) (IsPrinted (codes "release"))
release-exact = one_token-finds (IsPrinted (codes "release")) name_of Release (λ token name is. let n = name_of-prints token name is in (refl, (n.named, tt, plainly refl (rw n.is refl))))

rollback-exact : Finds rollback_of (IsPrinted (codes "rollback"))
rollback-exact =
    none_or-finds (IsPrinted (codes "rollback")) Rollback (two_tokens (keyword_of (codes "to")) name_of (λ _ name. RollbackTo name)) (refl, (tt, tt, plainly refl refl))
    (two_tokens-finds (IsPrinted (codes "rollback")) (keyword_of (codes "to")) name_of (λ _ name. RollbackTo name)
    (λ to token u name is named. let n = name_of-prints token name named in (refl, (n.named, tt, plainly refl (rw (keyword_of-is (codes "to") to u is, n.is) refl)))))

others-exact : AllByRecursion IsExact other_forms
others-exact =
    begin-exact also commit-exact also rollback-exact also savepoint-exact also release-exact also vacuum-exact also vacuumlo-exact also tables-exact

form_in-some : (in_sweep : Bool) (fs : List Form) → AllByRecursion (IsExactIn in_sweep) fs → (word : List ℕ) (start column : ℕ) (arguments : TokenList) (r : Request) → form_in fs word start column arguments ≡ Read r → IsPrintedIn in_sweep word arguments r
form_in-some in_sweep [] exact word start column arguments r h = cc h
form_in-some in_sweep (f ∷ more) exact word start column arguments r h = elim (tested (bytes_eq word f.word)) [
  | inl same ↦
      let is : word ≡ f.word = (bytes_eq-Decides word f.word).0 same in
      rw is (exact.0 column arguments r (rw same at h))
  | inr other ↦ form_in-some in_sweep more exact.1 word start column arguments r (rw other at h)
]

pub request-some : (in_sweep : Bool) (column : ℕ) (tokens : TokenList) (r : Request) → request_of in_sweep column tokens ≡ Read r → (is_of_sweep r ≡ in_sweep) × SpellsServed r tokens
request-some in_sweep column [] r h = cc h
request-some true column (word ∷ arguments) r h =
    form_in-some true sweep_forms sweeps-exact word column (column_after column word arguments) arguments r h
request-some false column (word ∷ arguments) r h = elim (tested (begins (codes "lo_") word)) [
  | inl begun ↦ form_in-some false large_object_forms large_objects-exact word column (column_after column word arguments) arguments r (rw begun at h)
  | inr other ↦ form_in-some false other_forms others-exact word column (column_after column word arguments) arguments r (rw other at h)
]

-- what was read from a line: a session, and a request that may stand behind its program
pub record ReadEntry (programs : List (List Request)) (entry : ℕ × Request) : Type 0 where
  pub low : 1 ≤ entry.0
  pub high : entry.0 ≤ 16
  pub stands : is_of_sweep entry.1 ≡ is_in_sweep (program_of programs entry.0)
  pub spelled : IsSpelled entry.1

request_by-spelled : (programs : List (List Request)) (session column : ℕ) (tokens : TokenList) (entry : ℕ × Request) → 1 ≤ session → session ≤ 16 → request_by programs session column tokens ≡ Read entry → ReadEntry programs entry
request_by-spelled programs session column tokens entry low high h =
    let in_sweep = is_in_sweep (program_of programs session) in
    let m = read_and-some (λ request. Read (session, request)) (request_of in_sweep column tokens) entry h in
    let p = request-some in_sweep column tokens m.0 m.1 in
    let read : ReadEntry programs (session, m.0) = record { low = low; high = high; stands = p.0; spelled = p.1.0 } in
    subst (ReadEntry programs) (read_injective (session, m.0) entry m.2) read

pub entry-spelled : (marking : Marking) (programs : List (List Request)) (line : List ℕ) (entry : ℕ × Request) → entry_by marking programs line ≡ Read entry → ReadEntry programs entry
entry-spelled Marked programs line entry h =
    let f = first_token-some session_of (request_by programs) 1 (tokens_of line) entry h in
    let s = session-some f.token f.a f.spells in
    request_by-spelled programs f.a (column_after 1 f.token f.more) f.more entry s.0 s.1 f.left
entry-spelled Unmarked programs line entry h = request_by-spelled programs 1 1 (tokens_of line) entry (omega arith) (omega arith) h

pub request-spelled : (column : ℕ) (tokens : TokenList) (r : Request) → SpellsServed r tokens → request_of (is_of_sweep r) column tokens ≡ Read r
request-spelled column tokens Begin h = rw (h.2.is, h.2.spell_rest) refl
request-spelled column tokens Commit h = rw (h.2.is, h.2.spell_rest) refl
request-spelled column tokens Rollback h = rw (h.2.is, h.2.spell_rest) refl
request-spelled column tokens (Savepoint name) h = rw (h.2.is, h.2.spell_rest, spelled_name name h.0) refl
request-spelled column tokens (Release name) h = rw (h.2.is, h.2.spell_rest, spelled_name name h.0) refl
request-spelled column tokens (RollbackTo name) h = rw (h.2.is, h.2.spell_rest, spelled_name name h.0) refl
request-spelled column tokens Vacuum h = rw (h.2.is, h.2.spell_rest) refl
request-spelled column tokens (LoCreat mode) h = rw (h.2.is, h.2.spell_rest, int4_of-decimal mode h.1) refl
request-spelled column tokens (LoCreate oid) h = rw (h.2.is, h.2.spell_rest, oid_of-decimal oid h.1) refl
request-spelled column tokens (LoOpen oid mode) h = rw (h.2.is, h.2.spell_rest, oid_of-decimal oid h.1.0, int4_of-decimal mode h.1.1) refl
request-spelled column tokens (LoUnlink oid) h = rw (h.2.is, h.2.spell_rest, oid_of-decimal oid h.1) refl
request-spelled column tokens (LoGet oid from None) h = rw (h.0, h.2.is, h.2.spell_rest, oid_of-decimal oid h.1) refl
request-spelled column tokens (LoGet oid from (Some count)) h = rw (h.2.is, h.2.spell_rest, oid_of-decimal oid h.1.0, int8_of-decimal from h.1.1, int4_of-decimal count h.1.2) refl
request-spelled column tokens (LoPut oid at bytes) h =
    let last = one_token_of SpellsBytes h.2.rest bytes h.2.spell_rest in
    rw (h.2.is, oid_of-decimal oid h.1.0, int8_of-decimal at h.1.1, last.is, last.spells.is, bytes_of-spelled bytes_limit last.spells.digits bytes last.spells.stands_for h.0) refl
request-spelled column tokens (LoFromBytea oid bytes) h =
    let last = one_token_of SpellsBytes h.2.rest bytes h.2.spell_rest in
    rw (h.2.is, oid_of-decimal oid h.1.0, last.is, last.spells.is, bytes_of-spelled bytes_limit last.spells.digits bytes last.spells.stands_for h.0) refl
request-spelled column tokens (LoClose fd) h = rw (h.2.is, h.2.spell_rest, int4_of-decimal fd h.1) refl
request-spelled column tokens (LoRead fd count) h = rw (h.2.is, h.2.spell_rest, int4_of-decimal fd h.1.0, int4_of-decimal count h.1.1) refl
request-spelled column tokens (LoWrite fd bytes) h =
    let last = one_token_of SpellsBytes h.2.rest bytes h.2.spell_rest in
    rw (h.2.is, int4_of-decimal fd h.1.0, last.is, last.spells.is, bytes_of-spelled bytes_limit last.spells.digits bytes last.spells.stands_for h.0) refl
request-spelled column tokens (LoLseek fd offset whence) h = rw (h.2.is, h.2.spell_rest, int4_of-decimal fd h.1.0, int4_of-decimal offset h.1.1, int4_of-decimal whence h.1.2) refl
request-spelled column tokens (LoLseek64 fd offset whence) h = rw (h.2.is, h.2.spell_rest, int4_of-decimal fd h.1.0, int8_of-decimal offset h.1.1, int4_of-decimal whence h.1.2) refl
request-spelled column tokens (LoTell fd) h = rw (h.2.is, h.2.spell_rest, int4_of-decimal fd h.1) refl
request-spelled column tokens (LoTell64 fd) h = rw (h.2.is, h.2.spell_rest, int4_of-decimal fd h.1) refl
request-spelled column tokens (LoTruncate fd size) h = rw (h.2.is, h.2.spell_rest, int4_of-decimal fd h.1.0, int4_of-decimal size h.1.1) refl
request-spelled column tokens (LoTruncate64 fd size) h = rw (h.2.is, h.2.spell_rest, int4_of-decimal fd h.1.0, int8_of-decimal size h.1.1) refl
request-spelled column tokens (CreateTable name columns) h = rw h.2.is (create_of-spelled (column_after column (codes "create") (codes "table" ∷ name ∷ h.2.rest)) name h.2.rest columns h.0.0 h.2.spell_rest h.0.1)
request-spelled column tokens (Insert table values) h = rw h.2.is (insert_of-spelled (column_after column (codes "insert") (table ∷ h.2.rest)) table h.2.rest values h.0.0 h.2.spell_rest h.0.2 h.1 h.0.1)
request-spelled column tokens (Update table id changes) h = rw h.2.is (update_of-spelled (column_after column (codes "update") (table ∷ signed_decimal id ∷ h.2.rest)) table id h.2.rest changes h.0.0 h.1.0 h.2.spell_rest h.0.1 h.1.1)
request-spelled column tokens (Rewrite table storages) h = rw h.2.is (rewrite_of-spelled (column_after column (codes "rewrite") (table ∷ h.2.rest)) table h.2.rest storages h.0.0 h.2.spell_rest h.0.1)
request-spelled column tokens (Delete table id) h = rw (h.2.is, h.2.spell_rest, spelled_name table h.0, int8_of-decimal id h.1) refl
request-spelled column tokens (Get table id) h = rw (h.2.is, h.2.spell_rest, spelled_name table h.0, int8_of-decimal id h.1) refl
request-spelled column tokens (Ids table) h = rw (h.2.is, h.2.spell_rest, spelled_name table h.0) refl
request-spelled column tokens (Slice table id name from count) h = rw (h.2.is, h.2.spell_rest, spelled_name table h.0.0, int8_of-decimal id h.1.0, spelled_name name h.0.1, int8_of-decimal from h.1.1, int8_of-decimal count h.1.2) refl
request-spelled column tokens (Declare cursor table id) h = rw (h.2.is, h.2.spell_rest, spelled_name cursor h.0.0, spelled_name table h.0.1, int8_of-decimal id h.1) refl
request-spelled column tokens (Fetch cursor name from count) h = rw (h.2.is, h.2.spell_rest, spelled_name cursor h.0.0, spelled_name name h.0.1, int8_of-decimal from h.1.0, int8_of-decimal count h.1.1) refl
request-spelled column tokens (Close cursor) h = rw (h.2.is, h.2.spell_rest, spelled_name cursor h.0) refl
request-spelled column tokens (Array name text) h = rw (h.2.is, h.2.spell_rest, spelled_name name h.0.0, array_text_of-spelled text h.0.1) refl
request-spelled column tokens (Load name table id from) h = rw (h.2.is, h.2.spell_rest, spelled_name name h.0.0, spelled_name table h.0.1, int8_of-decimal id h.1, spelled_name from h.0.2) refl
request-spelled column tokens (Set name sub element) h = rw (h.2.is, h.2.spell_rest, spelled_name name h.0, int4_of-decimal sub h.1.0, element_of-spelled element h.1.1) refl
request-spelled column tokens (Elem name sub) h = rw (h.2.is, h.2.spell_rest, spelled_name name h.0, int4_of-decimal sub h.1) refl
request-spelled column tokens (Show name) h = rw (h.2.is, h.2.spell_rest, spelled_name name h.0) refl
request-spelled column tokens (Vacuumlo true limit) h = rw (h.2.is, h.2.spell_rest, limit_of-decimal limit h.0) refl
request-spelled column tokens (Vacuumlo false limit) h = rw (h.2.is, h.2.spell_rest, limit-unmarked limit h.0, limit_of-decimal limit h.0) refl
request-spelled column tokens Step h = rw (h.2.is, h.2.spell_rest) refl
request-spelled column tokens Finish h = rw (h.2.is, h.2.spell_rest) refl

-- Each request has a spelling: bytes in digits of lower case, storages written out

spelled_by : (r : Request) (rest : TokenList) → IsSpelled r → HasRanges r → SpellRest r rest → HasSpelling r
spelled_by r rest served ranges spell_rest = record {
  tokens = printed r ++ rest;
  spelled = λ column. request-spelled column (printed r ++ rest) r (served, ranges, record { rest = rest; is = refl; spell_rest = spell_rest });
}

bytes_printed : (bytes : List ℕ) → IsBytes bytes → SpellAll SpellsBytes (bytes_print bytes ∷ []) (bytes ∷ [])
bytes_printed bytes within = (bytes_spelled bytes within, tt)

pub has_spelling : (r : Request) → IsSpelled r → HasRanges r → HasSpelling r
has_spelling (LoPut oid at bytes) served ranges = spelled_by (LoPut oid at bytes) (bytes_print bytes ∷ []) served ranges (bytes_printed bytes ranges.2)
has_spelling (LoFromBytea oid bytes) served ranges = spelled_by (LoFromBytea oid bytes) (bytes_print bytes ∷ []) served ranges (bytes_printed bytes ranges.1)
has_spelling (LoWrite fd bytes) served ranges = spelled_by (LoWrite fd bytes) (bytes_print bytes ∷ []) served ranges (bytes_printed bytes ranges.1)
has_spelling (CreateTable name columns) served ranges = spelled_by (CreateTable name columns) (map column_print columns) served ranges (all_printed SpellsColumn column_print (λ (c : Column). IsName c.name) (λ column named. column_spelled column) columns served.1.named)
has_spelling (Insert table values) served ranges = spelled_by (Insert table values) (map literal_print values) served ranges (all_printed SpellsLiteral literal_print IsLiteralInRange literal_spelled values ranges)
has_spelling (Update table id changes) served ranges = spelled_by (Update table id changes) (map change_print changes) served ranges (all_printed SpellsChange change_print IsChangeInRange change_spelled changes ranges.1)
has_spelling (Rewrite table storages) served ranges = spelled_by (Rewrite table storages) (map storage_print storages) served ranges (all_printed SpellsStorage storage_print (λ (c : Column). IsName c.name × (c.kind ≡ Bytea)) (λ column named. storage_spelled column) storages served.1.1)
has_spelling Begin served ranges = spelled_by Begin [] served ranges refl
has_spelling Commit served ranges = spelled_by Commit [] served ranges refl
has_spelling Rollback served ranges = spelled_by Rollback [] served ranges refl
has_spelling (Savepoint name) served ranges = spelled_by (Savepoint name) [] served ranges refl
has_spelling (Release name) served ranges = spelled_by (Release name) [] served ranges refl
has_spelling (RollbackTo name) served ranges = spelled_by (RollbackTo name) [] served ranges refl
has_spelling Vacuum served ranges = spelled_by Vacuum [] served ranges refl
has_spelling (LoCreat mode) served ranges = spelled_by (LoCreat mode) [] served ranges refl
has_spelling (LoCreate oid) served ranges = spelled_by (LoCreate oid) [] served ranges refl
has_spelling (LoOpen oid mode) served ranges = spelled_by (LoOpen oid mode) [] served ranges refl
has_spelling (LoUnlink oid) served ranges = spelled_by (LoUnlink oid) [] served ranges refl
has_spelling (LoGet oid from None) served ranges = spelled_by (LoGet oid from None) [] served ranges refl
has_spelling (LoGet oid from (Some count)) served ranges = spelled_by (LoGet oid from (Some count)) [] served ranges refl
has_spelling (LoClose fd) served ranges = spelled_by (LoClose fd) [] served ranges refl
has_spelling (LoRead fd count) served ranges = spelled_by (LoRead fd count) [] served ranges refl
has_spelling (LoLseek fd offset whence) served ranges = spelled_by (LoLseek fd offset whence) [] served ranges refl
has_spelling (LoLseek64 fd offset whence) served ranges = spelled_by (LoLseek64 fd offset whence) [] served ranges refl
has_spelling (LoTell fd) served ranges = spelled_by (LoTell fd) [] served ranges refl
has_spelling (LoTell64 fd) served ranges = spelled_by (LoTell64 fd) [] served ranges refl
has_spelling (LoTruncate fd size) served ranges = spelled_by (LoTruncate fd size) [] served ranges refl
has_spelling (LoTruncate64 fd size) served ranges = spelled_by (LoTruncate64 fd size) [] served ranges refl
has_spelling (Delete table id) served ranges = spelled_by (Delete table id) [] served ranges refl
has_spelling (Get table id) served ranges = spelled_by (Get table id) [] served ranges refl
has_spelling (Ids table) served ranges = spelled_by (Ids table) [] served ranges refl
has_spelling (Slice table id name from count) served ranges = spelled_by (Slice table id name from count) [] served ranges refl
has_spelling (Declare cursor table id) served ranges = spelled_by (Declare cursor table id) [] served ranges refl
has_spelling (Fetch cursor name from count) served ranges = spelled_by (Fetch cursor name from count) [] served ranges refl
has_spelling (Close cursor) served ranges = spelled_by (Close cursor) [] served ranges refl
has_spelling (Array name text) served ranges = spelled_by (Array name text) [] served ranges refl
has_spelling (Load name table id from) served ranges = spelled_by (Load name table id from) [] served ranges refl
has_spelling (Set name sub element) served ranges = spelled_by (Set name sub element) [] served ranges refl
has_spelling (Elem name sub) served ranges = spelled_by (Elem name sub) [] served ranges refl
has_spelling (Show name) served ranges = spelled_by (Show name) [] served ranges refl
has_spelling (Vacuumlo true limit) served ranges = spelled_by (Vacuumlo true limit) [] served ranges refl
has_spelling (Vacuumlo false limit) served ranges = spelled_by (Vacuumlo false limit) [] served ranges refl
has_spelling Step served ranges = spelled_by Step [] served ranges refl
has_spelling Finish served ranges = spelled_by Finish [] served ranges refl
