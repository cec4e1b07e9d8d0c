use Rattle.std.proofs.Common.{◌≡◌, ℕ, List, Option, take, ◌∙◌, ap, subst}
use Rattle.lo_outside.specs.Files.{File, bytes_of}
use Rattle.lo_tool.specs.Images.{NoImage}
use Rattle.lo_tool.specs.Texts.{line_about}
use Rattle.lo_tool.proofs.Stops.{content_read}
use Rattle.lo_tool.proofs.reading.read_opening.Goals as goal

pub returns-in-Err-Bad-clause-err : goal.returns-in-Err-Bad-clause-err
returns-in-Err-Bad-clause-err g c =
    NoImage c.in_ok-bytes.bytes
    (record { told = λ tells. content_read (g.F.Files.folder c.args.files.now c.args.name.now) c.in-Some.size c.in_ok-bytes.bytes (rw (← c.in-Some.is) (c.in_ok-size.ensures.size tells)) (subst (λ (folder : List ℕ → Option File). c.in_ok-bytes.bytes ≡ take c.in-Some.size (bytes_of (folder c.args.name.now))) c.in_ok-size.ensures.folder (c.in_ok-bytes.ensures.told (rw c.in_ok-size.ensures.tells tells))) })
    c.in-Err-Bad.bad
    (rw (c.in-Err-Bad.field-0-is, c.items.ensures) at c.in-Err-Bad.ensures.exact)
    (c.in_ok-line_about-in-Err-Bad.ensures ∙ ap (line_about c.args.name.now) (c.items-in-Err-Bad.ensures ∙ c.in_ok-what-in-Err-Bad.ensures))
