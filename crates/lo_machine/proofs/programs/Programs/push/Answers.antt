use Rattle.std.proofs.Common.{◌≡◌, List, [], ◌∷◌, ◌++◌, rules, length, subst, sym, ◌<◌, arith}
use Rattle.std.specs.Prelude.{All, Result, Ok, Err, OnOk, OnErr}
use Rattle.std.proofs.lemmas.List.Elements.{All-set, All-push, All-get_or}
use Rattle.lo_base.specs.declared.memory.NoMemory.{NoMemory}
use Rattle.lo_base.specs.declared.request.Request.{Request}
use Rattle.lo_machine.specs.Served.{IsServed}
use Rattle.lo_machine.proofs.programs.Programs.push.Goals as goal

-- a program with one request more, or as it was
served_more : (result : Result (Unit {0}) NoMemory) (old new : List Request) (request : Request) → OnOk result (new ≡ old ++ request ∷ []) → OnErr result (new ≡ old) → All IsServed old → IsServed request → All IsServed new
served_more (Ok u) old new request added same all one = subst (All IsServed) (sym added) (All-push IsServed old request all one)
served_more (Err e) old new request added same all one = subst (All IsServed) (sym same) all

pub invariant_of-self : goal.invariant_of-self
invariant_of-self c =
    let place : c.place.result < length c.self.inside.lists.items = omega (arith, c.self.invariant.0) in (
      search rules,
      All-set (λ (lines : List Request). All IsServed lines) c.self.inside.lists.items c.place.result c.push.new.self
          (served_more c.push.result c.index_mut.result.now c.push.new.self c.args.request c.push.ensures.ok c.push.ensures.err
          (subst (All IsServed) (sym c.index_mut.ensures.value) (All-get_or (λ (lines : List Request). All IsServed lines) c.self.inside.lists.items c.place.result _ place c.self.invariant.1))
          c.requires)
          c.self.invariant.1,
    )
