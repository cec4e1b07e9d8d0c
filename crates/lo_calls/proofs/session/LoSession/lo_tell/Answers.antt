use Rattle.std.proofs.Common.{ℤ, subst, sym, w32}
use Rattle.std.proofs.lemmas.Int.{to_z-of_z}
use Rattle.lo_base.specs.declared.reply.Reply.TheVariants.{Number}
use Rattle.lo_calls.specs.DescriptorRows.{tell_row}
use Rattle.lo_calls.specs.World.{world, Grants}
use Rattle.lo_calls.proofs.Finding.{found_position}
use Rattle.lo_calls.proofs.Telling.{told, tell_done}
use Rattle.lo_calls.proofs.session.LoSession.lo_tell.Goals as goal

pub returns-clause-ok : goal.returns-clause-ok
returns-clause-ok c x store ready =
    let w = world x store c.args.self.now in
    let fd = to_z-of_z w32 c.args.fd c.ranges.fd in
    let small = found_position _ c.args.self.now.descs c.in_ok-index.index c.index.result.now x c.args.self.now.s c.in_ok-index.ensures.ok c.index.ensures ready.descriptors in
    subst (λ (z : ℤ). Grants (tell_row c.args.wide c.args.fd) w w (Number z)) (sym (told c.index.result.now.position c.try_from.result c.unwrap_or.result small c.try_from.ensures c.unwrap_or.ensures))
    (tell_done c.args.wide c.args.fd w c.in_ok-index.index c.index.result.now (rw fd at c.in_ok-index.ensures.ok) c.index.ensures (rw fd at c.in_ok-check_range.ensures.ok))
