-- The forms of requests on array variables.
use Rattle.std.specs.Prelude.{List, [], ◌∷◌, codes}
use Rattle.lo_base.specs.declared.request.Request.TheVariants.{Array, Load, Set, Elem, Show}
use Rattle.lo_script.specs.Reader.{Form, form, one_token, two_tokens, three_tokens, four_tokens}
use Rattle.lo_script.specs.Token.{int4_of, int8_of, name_of}
use Rattle.lo_script.specs.ValueToken.{array_text_of, element_of}

abbrev pub array_forms : List Form
array_forms =
    form (codes "array") (two_tokens name_of array_text_of Array)
    ∷ form (codes "load") (four_tokens name_of name_of int8_of name_of Load)
    ∷ form (codes "set") (three_tokens name_of int4_of element_of Set)
    ∷ form (codes "elem") (two_tokens name_of int4_of Elem)
    ∷ form (codes "show") (one_token name_of Show)
    ∷ []
