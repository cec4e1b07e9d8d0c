-- The forms on large objects are exact.
use Rattle.std.proofs.Common.{ℕ, List, [], ◌∷◌, Some, None, refl}
use Rattle.std.specs.Prelude.{pos, codes}
use Rattle.std.specs.List.{AllByRecursion}
use Rattle.lo_base.specs.declared.request.Request.TheVariants.{LoCreat, LoCreate, LoOpen, LoClose, LoRead, LoWrite, LoLseek, LoLseek64, LoTell, LoTell64, LoTruncate, LoTruncate64, LoUnlink, LoGet, LoPut, LoFromBytea}
use Rattle.lo_machine.specs.Spelled.{bytes_limit}
use Rattle.lo_script.specs.Form.{get_of, descriptor_forms, large_object_forms}
use Rattle.lo_script.specs.Reader.{one_token, two_tokens, three_tokens, none_or}
use Rattle.lo_script.specs.SpelledValues.{SpellAll, SpellsBytes}
use Rattle.lo_script.specs.Token.{oid_of, int4_of, int8_of, bytes_of}
use Rattle.lo_script.proofs.DecimalsAndBytes.{int4_of-prints, int8_of-prints, oid_of-prints, PrintsBytes, bytes_of-prints}
use Rattle.lo_script.proofs.ExactForms.{IsPrinted, IsExact, plainly, ◌also◌}
use Rattle.lo_script.proofs.Readers.{Finds, none_or-finds, first_token-finds, one_token-finds, two_tokens-finds, three_tokens-finds}

-- the last token spells bytes
last_bytes : {most : ℕ} {token bytes : List ℕ} → PrintsBytes most token bytes → SpellAll SpellsBytes (token ∷ []) (bytes ∷ [])
last_bytes p = (record { digits = p.digits; is = p.is; stands_for = p.stands_for }, tt)

creat-exact : Finds (one_token int4_of LoCreat) (IsPrinted (codes "lo_creat"))
creat-exact =
    one_token-finds (IsPrinted (codes "lo_creat")) int4_of LoCreat
    (λ t a is-t. let p = int4_of-prints t a is-t in (refl, (tt, p.small, plainly refl (rw p.is refl))))

create-exact : Finds (one_token oid_of LoCreate) (IsPrinted (codes "lo_create"))
create-exact =
    one_token-finds (IsPrinted (codes "lo_create")) oid_of LoCreate
    (λ t a is-t. let p = oid_of-prints t a is-t in (refl, (tt, p.high, plainly refl (rw p.is refl))))

open-exact : Finds (two_tokens oid_of int4_of LoOpen) (IsPrinted (codes "lo_open"))
open-exact =
    two_tokens-finds (IsPrinted (codes "lo_open")) oid_of int4_of LoOpen
    (λ t u a b is-t is-u. let p = oid_of-prints t a is-t in let q = int4_of-prints u b is-u in (refl, (tt, (p.high, q.small), plainly refl (rw (p.is, q.is) refl))))

unlink-exact : Finds (one_token oid_of LoUnlink) (IsPrinted (codes "lo_unlink"))
unlink-exact =
    one_token-finds (IsPrinted (codes "lo_unlink")) oid_of LoUnlink
    (λ t a is-t. let p = oid_of-prints t a is-t in (refl, (tt, p.high, plainly refl (rw p.is refl))))

get-exact : Finds get_of (IsPrinted (codes "lo_get"))
get-exact =
    first_token-finds (IsPrinted (codes "lo_get")) oid_of (λ oid. none_or (LoGet oid (pos 0) None) (two_tokens int8_of int4_of (λ from length. LoGet oid from (Some length))))
    (λ t oid is. let o = oid_of-prints t oid is in
    none_or-finds (λ more. IsPrinted (codes "lo_get") (t ∷ more)) (LoGet oid (pos 0) None) (two_tokens int8_of int4_of (λ from length. LoGet oid from (Some length)))
    (refl, (refl, o.high, plainly refl (rw o.is refl)))
    (two_tokens-finds (λ more. IsPrinted (codes "lo_get") (t ∷ more)) int8_of int4_of (λ from length. LoGet oid from (Some length))
    (λ u v from length is-u is-v. let p = int8_of-prints u from is-u in let q = int4_of-prints v length is-v in (refl, (tt, (o.high, p.small, q.small), plainly refl (rw (o.is, p.is, q.is) refl))))))

put-exact : Finds (three_tokens oid_of int8_of (bytes_of bytes_limit) LoPut) (IsPrinted (codes "lo_put"))
put-exact =
    three_tokens-finds (IsPrinted (codes "lo_put")) oid_of int8_of (bytes_of bytes_limit) LoPut
    (λ t u v a b c is-t is-u is-v. let p = oid_of-prints t a is-t in let q = int8_of-prints u b is-u in let r = bytes_of-prints bytes_limit v c is-v in (refl, (r.few, (p.high, q.small, r.within), record { rest = v ∷ []; is = rw (p.is, q.is) refl; spell_rest = last_bytes r })))

from_bytea-exact : Finds (two_tokens oid_of (bytes_of bytes_limit) LoFromBytea) (IsPrinted (codes "lo_from_bytea"))
from_bytea-exact =
    two_tokens-finds (IsPrinted (codes "lo_from_bytea")) oid_of (bytes_of bytes_limit) LoFromBytea
    (λ t u a b is-t is-u. let p = oid_of-prints t a is-t in let q = bytes_of-prints bytes_limit u b is-u in (refl, (q.few, (p.high, q.within), record { rest = u ∷ []; is = rw p.is refl; spell_rest = last_bytes q })))

close-exact : Finds (one_token int4_of LoClose) (IsPrinted (codes "lo_close"))
close-exact =
    one_token-finds (IsPrinted (codes "lo_close")) int4_of LoClose
    (λ t a is-t. let p = int4_of-prints t a is-t in (refl, (tt, p.small, plainly refl (rw p.is refl))))

read-exact : Finds (two_tokens int4_of int4_of LoRead) (IsPrinted (codes "lo_read"))
read-exact =
    two_tokens-finds (IsPrinted (codes "lo_read")) int4_of int4_of LoRead
    (λ t u a b is-t is-u. let p = int4_of-prints t a is-t in let q = int4_of-prints u b is-u in (refl, (tt, (p.small, q.small), plainly refl (rw (p.is, q.is) refl))))

write-exact : Finds (two_tokens int4_of (bytes_of bytes_limit) LoWrite) (IsPrinted (codes "lo_write"))
write-exact =
    two_tokens-finds (IsPrinted (codes "lo_write")) int4_of (bytes_of bytes_limit) LoWrite
    (λ t u a b is-t is-u. let p = int4_of-prints t a is-t in let q = bytes_of-prints bytes_limit u b is-u in (refl, (q.few, (p.small, q.within), record { rest = u ∷ []; is = rw p.is refl; spell_rest = last_bytes q })))

lseek-exact : Finds (three_tokens int4_of int4_of int4_of LoLseek) (IsPrinted (codes "lo_lseek"))
lseek-exact =
    three_tokens-finds (IsPrinted (codes "lo_lseek")) int4_of int4_of int4_of LoLseek
    (λ t u v a b c is-t is-u is-v. let p = int4_of-prints t a is-t in let q = int4_of-prints u b is-u in let r = int4_of-prints v c is-v in (refl, (tt, (p.small, q.small, r.small), plainly refl (rw (p.is, q.is, r.is) refl))))

lseek64-exact : Finds (three_tokens int4_of int8_of int4_of LoLseek64) (IsPrinted (codes "lo_lseek64"))
lseek64-exact =
    three_tokens-finds (IsPrinted (codes "lo_lseek64")) int4_of int8_of int4_of LoLseek64
    (λ t u v a b c is-t is-u is-v. let p = int4_of-prints t a is-t in let q = int8_of-prints u b is-u in let r = int4_of-prints v c is-v in (refl, (tt, (p.small, q.small, r.small), plainly refl (rw (p.is, q.is, r.is) refl))))

tell-exact : Finds (one_token int4_of LoTell) (IsPrinted (codes "lo_tell"))
tell-exact =
    one_token-finds (IsPrinted (codes "lo_tell")) int4_of LoTell
    (λ t a is-t. let p = int4_of-prints t a is-t in (refl, (tt, p.small, plainly refl (rw p.is refl))))

tell64-exact : Finds (one_token int4_of LoTell64) (IsPrinted (codes "lo_tell64"))
tell64-exact =
    one_token-finds (IsPrinted (codes "lo_tell64")) int4_of LoTell64
    (λ t a is-t. let p = int4_of-prints t a is-t in (refl, (tt, p.small, plainly refl (rw p.is refl))))

truncate-exact : Finds (two_tokens int4_of int4_of LoTruncate) (IsPrinted (codes "lo_truncate"))
truncate-exact =
    two_tokens-finds (IsPrinted (codes "lo_truncate")) int4_of int4_of LoTruncate
    (λ t u a b is-t is-u. let p = int4_of-prints t a is-t in let q = int4_of-prints u b is-u in (refl, (tt, (p.small, q.small), plainly refl (rw (p.is, q.is) refl))))

truncate64-exact : Finds (two_tokens int4_of int8_of LoTruncate64) (IsPrinted (codes "lo_truncate64"))
truncate64-exact =
    two_tokens-finds (IsPrinted (codes "lo_truncate64")) int4_of int8_of LoTruncate64
    (λ t u a b is-t is-u. let p = int4_of-prints t a is-t in let q = int8_of-prints u b is-u in (refl, (tt, (p.small, q.small), plainly refl (rw (p.is, q.is) refl))))

descriptors-exact : AllByRecursion IsExact descriptor_forms
descriptors-exact =
    close-exact also read-exact also write-exact also lseek-exact also lseek64-exact also tell-exact also tell64-exact also truncate-exact also truncate64-exact also tt

pub large_objects-exact : AllByRecursion IsExact large_object_forms
large_objects-exact = creat-exact also create-exact also open-exact also unlink-exact also get-exact also put-exact also from_bytea-exact also descriptors-exact
