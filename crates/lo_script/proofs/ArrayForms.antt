-- The forms on array variables are exact.
use Rattle.std.proofs.Common.{refl}
use Rattle.std.specs.Prelude.{codes}
use Rattle.std.specs.List.{AllByRecursion}
use Rattle.lo_base.specs.declared.request.Request.TheVariants.{Array, Load, Set, Elem, Show}
use Rattle.lo_script.specs.ArrayForm.{array_forms}
use Rattle.lo_script.specs.Reader.{one_token, two_tokens, three_tokens, four_tokens}
use Rattle.lo_script.specs.Token.{int4_of, int8_of, name_of}
use Rattle.lo_script.specs.ValueToken.{array_text_of, element_of}
use Rattle.lo_script.proofs.DecimalsAndBytes.{int4_of-prints, int8_of-prints}
use Rattle.lo_script.proofs.ExactForms.{IsPrinted, IsExact, plainly, ◌also◌}
use Rattle.lo_script.proofs.MarksAndNames.{name_of-prints}
use Rattle.lo_script.proofs.Readers.{Finds, one_token-finds, two_tokens-finds, three_tokens-finds, four_tokens-finds}
use Rattle.lo_script.proofs.ValueTokens.{array_text_of-prints, element_of-prints}

array-exact : Finds (two_tokens name_of array_text_of Array) (IsPrinted (codes "array"))
array-exact =
    two_tokens-finds (IsPrinted (codes "array")) name_of array_text_of Array
    (λ t u a b is-t is-u. let p = name_of-prints t a is-t in let q = array_text_of-prints u b is-u in (refl, ((p.named, q.is_token), tt, plainly refl (rw (p.is, q.is) refl))))

load-exact : Finds (four_tokens name_of name_of int8_of name_of Load) (IsPrinted (codes "load"))
load-exact =
    four_tokens-finds (IsPrinted (codes "load")) name_of name_of int8_of name_of Load
    (λ t u v w a b c d is-t is-u is-v is-w. let p = name_of-prints t a is-t in let q = name_of-prints u b is-u in let r = int8_of-prints v c is-v in let s = name_of-prints w d is-w in (refl, ((p.named, q.named, s.named), r.small, plainly refl (rw (p.is, q.is, r.is, s.is) refl))))

set-exact : Finds (three_tokens name_of int4_of element_of Set) (IsPrinted (codes "set"))
set-exact =
    three_tokens-finds (IsPrinted (codes "set")) name_of int4_of element_of Set
    (λ t u v a b c is-t is-u is-v. let p = name_of-prints t a is-t in let q = int4_of-prints u b is-u in let r = element_of-prints v c is-v in (refl, (p.named, (q.small, r.range), plainly refl (rw (p.is, q.is, r.is) refl))))

elem-exact : Finds (two_tokens name_of int4_of Elem) (IsPrinted (codes "elem"))
elem-exact =
    two_tokens-finds (IsPrinted (codes "elem")) name_of int4_of Elem
    (λ t u a b is-t is-u. let p = name_of-prints t a is-t in let q = int4_of-prints u b is-u in (refl, (p.named, q.small, plainly refl (rw (p.is, q.is) refl))))

show-exact : Finds (one_token name_of Show) (IsPrinted (codes "show"))
show-exact =
    one_token-finds (IsPrinted (codes "show")) name_of Show
    (λ t a is-t. let p = name_of-prints t a is-t in (refl, (p.named, tt, plainly refl (rw p.is refl))))

pub arrays-exact : AllByRecursion IsExact array_forms
arrays-exact = array-exact also load-exact also set-exact also elem-exact also show-exact also tt
