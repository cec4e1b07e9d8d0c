use Rattle.std.proofs.Common.{ap, refl, w32, w64}
use Rattle.std.proofs.lemmas.Int.{to_z-of_z}
use Rattle.row_versions.specs.declared.base.Core.{Core}
use Rattle.lo_calls.specs.World.{world}
use Rattle.lo_calls.proofs.Finding.{found_at, found_is, found_writes}
use Rattle.lo_calls.proofs.Keeping.{keeps_same}
use Rattle.lo_calls.proofs.Refusing.{failed_with}
use Rattle.lo_calls.proofs.Sizing.{truncate_bad_size, truncate_denied, truncate_done, unsigned_is}
use Rattle.lo_calls.proofs.Worlds.{store_keeps}
use Rattle.lo_calls.proofs.session.LoSession.lo_truncate.Goals as goal

pub returns-in_err-index-clause-keeps : goal.returns-in_err-index-clause-keeps
returns-in_err-index-clause-keeps c = keeps_same (world c.args.core.now.xacts c.args.store.now c.args.self.now) c.requires.ready

pub index-requires : goal.index-requires
index-requires c = found_at _ c.args.self.now.descs c.in_ok-index.index c.in_ok-index.ensures.ok.finds

pub returns-in_default-clause-err : goal.returns-in_default-clause-err
returns-in_default-clause-err c =
    let fd = to_z-of_z w32 c.args.fd c.ranges.fd in
    let len = to_z-of_z w64 c.args.len c.ranges.len in
    let found = rw fd at c.in_ok-index.ensures.ok in
    truncate_bad_size c.args.fd c.args.len (world c.args.core.now.xacts c.args.store.now c.args.self.now) c.index.result.now (found_is c.args.fd c.args.self.now.descs c.in_ok-index.index c.index.result.now found.finds c.index.ensures) (found_writes c.args.fd c.args.self.now.descs c.in_ok-index.index c.index.result.now found c.index.ensures) c.bad_size.result (rw len at c.bad_size.ensures)

pub returns-in_default-clause-keeps : goal.returns-in_default-clause-keeps
returns-in_default-clause-keeps c = keeps_same (world c.args.core.now.xacts c.args.store.now c.args.self.now) c.requires.ready

pub returns-in_err-cut-clause-err : goal.returns-in_err-cut-clause-err
returns-in_err-cut-clause-err c =
    let old = world c.args.core.now.xacts c.args.store.now c.args.self.now in
    let new = world c.cut.new.core.xacts (record { pages = c.cut.new.self; counter = c.args.store.now.counter }) c.args.self.now in
    let fd = to_z-of_z w32 c.args.fd c.ranges.fd in
    let len = to_z-of_z w64 c.args.len c.ranges.len in
    let found = rw fd at c.in_ok-index.ensures.ok in
    failed_with _ c.from_residual-in_err-cut.result c.in_err-cut.field-0.0 c.from_residual-in_err-cut.ensures.1
    (truncate_denied c.args.fd c.args.len old c.index.result.now (found_is c.args.fd c.args.self.now.descs c.in_ok-index.index c.index.result.now found.finds c.index.ensures) (found_writes c.args.fd c.args.self.now.descs c.in_ok-index.index c.index.result.now found c.index.ensures) c.in-Ok.size (unsigned_is c.args.len c.in-Ok.size (rw len at c.in-Ok.ensures.0) (rw len at c.in-Ok.ensures.1)) new (ap (λ (k : Core). k.xacts) c.cut.ensures.core) refl refl c.in_err-cut.field-0.0 c.in_err-cut.ensures.err)

pub returns-in_err-cut-clause-keeps : goal.returns-in_err-cut-clause-keeps
returns-in_err-cut-clause-keeps c =
    let old = world c.args.core.now.xacts c.args.store.now c.args.self.now in
    let new = world c.cut.new.core.xacts (record { pages = c.cut.new.self; counter = c.args.store.now.counter }) c.args.self.now in
    store_keeps old new (ap (λ (k : Core). k.xacts) c.cut.ensures.core) refl c.requires.ready c.cut.ensures.goes c.requires.ready.counter

pub returns-clause-ok : goal.returns-clause-ok
returns-clause-ok c =
    let old = world c.args.core.now.xacts c.args.store.now c.args.self.now in
    let new = world c.cut.new.core.xacts (record { pages = c.cut.new.self; counter = c.args.store.now.counter }) c.args.self.now in
    let fd = to_z-of_z w32 c.args.fd c.ranges.fd in
    let len = to_z-of_z w64 c.args.len c.ranges.len in
    let found = rw fd at c.in_ok-index.ensures.ok in
    truncate_done c.args.fd c.args.len old c.index.result.now (found_is c.args.fd c.args.self.now.descs c.in_ok-index.index c.index.result.now found.finds c.index.ensures) (found_writes c.args.fd c.args.self.now.descs c.in_ok-index.index c.index.result.now found c.index.ensures) c.in-Ok.size (unsigned_is c.args.len c.in-Ok.size (rw len at c.in-Ok.ensures.0) (rw len at c.in-Ok.ensures.1)) new (ap (λ (k : Core). k.xacts) c.cut.ensures.core) refl refl c.in_ok-cut.ensures.ok

pub returns-clause-keeps : goal.returns-clause-keeps
returns-clause-keeps c =
    let old = world c.args.core.now.xacts c.args.store.now c.args.self.now in
    let new = world c.cut.new.core.xacts (record { pages = c.cut.new.self; counter = c.args.store.now.counter }) c.args.self.now in
    store_keeps old new (ap (λ (k : Core). k.xacts) c.cut.ensures.core) refl c.requires.ready c.cut.ensures.goes c.requires.ready.counter
