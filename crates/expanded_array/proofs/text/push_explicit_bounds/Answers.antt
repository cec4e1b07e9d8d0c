use Rattle.std.proofs.Common.{◌≡◌, ◌++◌, ap, refl, sym, ◌∙◌, ℤ, arith, append_assoc}
use Rattle.std.specs.Prelude.{codes, pos, ◌+ℤ◌, ◌-ℤ◌}
use Rattle.std.specs.Int.{w64, cast_signed, cast_unsigned}
use Rattle.std.proofs.lemmas.Int.{ints}
use Rattle.std.proofs.lemmas.Result.{on_ok_weaker, on_err_weaker}
use Rattle.std.specs.Fmt.{signed_decimal}
use Rattle.expanded_array.specs.Array.{last_of}
use Rattle.expanded_array.specs.Text.{explicit_bounds}
use Rattle.expanded_array.proofs.Fronts.{join2, front_of}
use Rattle.expanded_array.proofs.text.push_explicit_bounds.Goals as goal

pub returns-in_default-extend-clause-err : goal.returns-in_default-extend-clause-err
returns-in_default-extend-clause-err c =
    let l : ℤ = c.args.lower in
    let number : cast_signed w64 (cast_unsigned w64 c.from-lower.result) ≡ c.args.lower = omega (arith, ints) in
    let second = join2 c.args.out.now c.extend.new.self c.push_number.new.out (codes "[") (signed_decimal c.args.lower) c.in-Ok.ensures.ok (c.in-Ok-push_number.ensures.ok ∙ ap (λ z. c.extend.new.self ++ signed_decimal z) number) in
    front_of c.args.out.now c.extend-2.new.self (codes "[" ++ signed_decimal c.args.lower) (codes ":" ++ (signed_decimal (last_of c.args.lower c.args.count) ++ codes "]=")) (explicit_bounds c.args.lower c.args.count)
    (c.in_default-extend.ensures.err ∙ second)
    (sym (append_assoc (codes "[" ++ signed_decimal c.args.lower ++ codes ":") (signed_decimal (last_of c.args.lower c.args.count)) (codes "]=")
    ∙ append_assoc (codes "[" ++ signed_decimal c.args.lower) (codes ":") (signed_decimal (last_of c.args.lower c.args.count) ++ codes "]=")))

pub returns-in_default-push_number-2-clause-err : goal.returns-in_default-push_number-2-clause-err
returns-in_default-push_number-2-clause-err c =
    let number : cast_signed w64 (cast_unsigned w64 c.from-lower.result) ≡ c.args.lower = omega (arith, ints) in
    let second = join2 c.args.out.now c.extend.new.self c.push_number.new.out (codes "[") (signed_decimal c.args.lower) c.in-Ok.ensures.ok (c.in-Ok-push_number.ensures.ok ∙ ap (λ z. c.extend.new.self ++ signed_decimal z) number) in
    let third = join2 c.args.out.now c.push_number.new.out c.extend-2.new.self (codes "[" ++ signed_decimal c.args.lower) (codes ":") second c.in-Ok-extend.ensures.ok in
    front_of c.args.out.now c.push_number-2.new.out (codes "[" ++ signed_decimal c.args.lower ++ codes ":") (signed_decimal (last_of c.args.lower c.args.count) ++ codes "]=") (explicit_bounds c.args.lower c.args.count)
    (c.in_default-push_number-2.ensures.err ∙ third)
    (sym (append_assoc (codes "[" ++ signed_decimal c.args.lower ++ codes ":") (signed_decimal (last_of c.args.lower c.args.count)) (codes "]=")))

pub returns-clause-ok : goal.returns-clause-ok
returns-clause-ok c =
    let number : cast_signed w64 (cast_unsigned w64 c.from-lower.result) ≡ c.args.lower = omega (arith, ints) in
    let last : cast_signed w64 (cast_unsigned w64 (cast_signed w64 (cast_unsigned w64 (cast_signed w64 (cast_unsigned w64 c.from-lower.result) +ℤ cast_signed w64 c.args.count)) -ℤ pos 1)) ≡ last_of c.args.lower c.args.count = omega (arith, ints) in
    let second = join2 c.args.out.now c.extend.new.self c.push_number.new.out (codes "[") (signed_decimal c.args.lower) c.in-Ok.ensures.ok (c.in-Ok-push_number.ensures.ok ∙ ap (λ z. c.extend.new.self ++ signed_decimal z) number) in
    let third = join2 c.args.out.now c.push_number.new.out c.extend-2.new.self (codes "[" ++ signed_decimal c.args.lower) (codes ":") second c.in-Ok-extend.ensures.ok in
    let fourth = join2 c.args.out.now c.extend-2.new.self c.push_number-2.new.out (codes "[" ++ signed_decimal c.args.lower ++ codes ":") (signed_decimal (last_of c.args.lower c.args.count)) third (c.in-Ok-push_number-2.ensures.ok ∙ ap (λ z. c.extend-2.new.self ++ signed_decimal z) last) in
    on_ok_weaker c.extend-3.result (λ e. join2 c.args.out.now c.push_number-2.new.out c.extend-3.new.self (codes "[" ++ signed_decimal c.args.lower ++ codes ":" ++ signed_decimal (last_of c.args.lower c.args.count)) (codes "]=") fourth e) c.extend-3.ensures.ok

pub returns-clause-err : goal.returns-clause-err
returns-clause-err c =
    let number : cast_signed w64 (cast_unsigned w64 c.from-lower.result) ≡ c.args.lower = omega (arith, ints) in
    let last : cast_signed w64 (cast_unsigned w64 (cast_signed w64 (cast_unsigned w64 (cast_signed w64 (cast_unsigned w64 c.from-lower.result) +ℤ cast_signed w64 c.args.count)) -ℤ pos 1)) ≡ last_of c.args.lower c.args.count = omega (arith, ints) in
    let second = join2 c.args.out.now c.extend.new.self c.push_number.new.out (codes "[") (signed_decimal c.args.lower) c.in-Ok.ensures.ok (c.in-Ok-push_number.ensures.ok ∙ ap (λ z. c.extend.new.self ++ signed_decimal z) number) in
    let third = join2 c.args.out.now c.push_number.new.out c.extend-2.new.self (codes "[" ++ signed_decimal c.args.lower) (codes ":") second c.in-Ok-extend.ensures.ok in
    let fourth = join2 c.args.out.now c.extend-2.new.self c.push_number-2.new.out (codes "[" ++ signed_decimal c.args.lower ++ codes ":") (signed_decimal (last_of c.args.lower c.args.count)) third (c.in-Ok-push_number-2.ensures.ok ∙ ap (λ z. c.extend-2.new.self ++ signed_decimal z) last) in
    on_err_weaker c.extend-3.result (λ e. front_of c.args.out.now c.extend-3.new.self (codes "[" ++ signed_decimal c.args.lower ++ codes ":" ++ signed_decimal (last_of c.args.lower c.args.count)) (codes "]=") (explicit_bounds c.args.lower c.args.count) (e ∙ fourth) refl) c.extend-3.ensures.err
