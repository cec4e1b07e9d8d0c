use Rattle.std.proofs.Common.{◌≡◌, ℕ, List, map, ap, refl, subst, ◌∙◌, arith}
use Rattle.lo_model.specs.Listing.{oids_in, tables_in_order}
use Rattle.lo_model.specs.Opening.{Opening, ObjectBytes, TableRows}
use Rattle.lo_opening.specs.Meaning.{object_of, table_of}
use Rattle.lo_opening.specs.Opening.{AreObjects, tables_chunks}
use Rattle.lo_machine.specs.Committed.{committed_object, committed_table}
use Rattle.lo_machine.specs.State.{committed_edits, edits}
use Rattle.lo_machine.proofs.CommittedObjects.{committed_are_fit, committed_reads, few_objects}
use Rattle.lo_machine.proofs.CommittedRows.{can_be_saved, seen_committed}
use Rattle.lo_machine.proofs.server.Server.committed.Goals as goal

-- openings of the same fields
same_opening : (blocks : ℕ) (counter counter' : ℕ) (tables tables' : List TableRows) (objects objects' : List ObjectBytes) → counter ≡ counter' → tables ≡ tables' → objects ≡ objects' →
    let one : Opening = record { blocks = blocks; counter = counter; tables = tables; objects = objects } in
    let other : Opening = record { blocks = blocks; counter = counter'; tables = tables'; objects = objects' } in
    one ≡ other
same_opening blocks counter counter' tables tables' objects objects' same rows bytes = rw (same, rows, bytes) refl

pub saved_tables-requires-clause-can : goal.saved_tables-requires-clause-can
saved_tables-requires-clause-can c = can_be_saved c.args.self.now c.requires.stands.state c.requires.stands.stands c.committed-snap.result c.committed-snap.ensures.view

pub saved_objects-requires-clause-reads : goal.saved_objects-requires-clause-reads
saved_objects-requires-clause-reads c = record {
  edits = committed_edits c.requires.stands.state;
  reads = committed_reads c.args.self.now c.requires.stands.state c.requires.stands.stands c.committed-snap.result c.committed-snap.ensures.view c.committed-snap.ensures.kept;
}

pub invariant_of-result : goal.invariant_of-result
invariant_of-result c =
    let e = c.args.self.now in
    let st = c.requires.stands.state in
    let stands = c.requires.stands.stands in
    let os = c.in_ok-objects.objects in
    let held : c.chunks_held-held.result ≡ tables_chunks c.in_ok-tables.tables = c.chunks_held-held.ensures ∙ ap tables_chunks c.items.ensures in
    let reads = committed_reads e st stands c.committed-snap.result c.committed-snap.ensures.view c.committed-snap.ensures.kept in
    let rules : AreObjects 0 (tables_chunks c.in_ok-tables.tables) os = subst (λ (n : ℕ). AreObjects 0 n os) held (c.in_ok-objects.ensures.rules (committed_edits st) reads (committed_are_fit e st stands)) in
    record {
      some_blocks = c.requires.least;
      few_blocks = c.requires.most;
      least_counter = omega (arith, stands.has.counter, stands.fit.counter.least);
      most_counter = omega (arith, stands.has.counter, stands.fit.counter.most);
      few_tables = c.in_ok-tables.ensures.few;
      tables = c.in_ok-tables.ensures.rules;
      few_chunks = c.in_ok-tables.ensures.chunks;
      objects = rules;
      few_objects = omega (arith, few_objects 0 (tables_chunks c.in_ok-tables.tables) os (omega arith) rules);
    }

pub returns : goal.returns
returns c st stands =
    let e = c.args.self.now in
    let seen = seen_committed e st stands c.committed-snap.result c.committed-snap.ensures.view in
    let reads = committed_reads e st stands c.committed-snap.result c.committed-snap.ensures.view c.committed-snap.ensures.kept in
    same_opening c.args.blocks e.store.counter st.database.counter
    (map table_of c.in_ok-tables.tables) (map (committed_table st) (tables_in_order st.database.tables))
    (map object_of c.in_ok-objects.objects) (map (committed_object st) (oids_in (committed_edits st)))
    stands.has.counter
    (c.in_ok-tables.ensures.rows (edits st) stands.has.rows ∙ rw (seen, stands.has.tables) refl)
    (c.in_ok-objects.ensures.same (committed_edits st) reads (committed_are_fit e st stands))
