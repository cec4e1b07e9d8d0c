use Rattle.std.proofs.Common.{rules, ◌≡◌, ◌<◌, ◌++◌, ◌∙◌, [], ◌∷◌, List, None, length, sym, ap, subst}
use Rattle.std.specs.BTreeMap.{insert_entry}
use Rattle.row_tables.specs.declared.catalog.Entry.{Entry}
use Rattle.row_tables.specs.Catalog.{IsIndex, most_tables, number_in, tables_of}
use Rattle.row_tables.proofs.Indexing.{by_bytes, few_entries, index_added}
use Rattle.row_tables.proofs.catalog.Catalog.add.Goals as goal

pub invariant_of-self-2 : goal.invariant_of-self-2
invariant_of-self-2 c =
    let entries = c.self.inside.entries.items in
    let entry : Entry = record { name = c.args.name; columns = c.args.columns } in
    let fresh : number_in c.args.name (tables_of entries) ≡ None = ap (number_in c.args.name) c.self.view_is ∙ c.requires.fresh in
    let few : length entries < most_tables = few_entries entries c.args.self.now c.self.view_is c.requires.few in
    let named : c.in_ok-key.key.items ≡ c.args.name = search rules in
    let whole : c.push_reserved.new.self.items ≡ entries ++ entry ∷ [] = c.push_reserved.ensures.items ∙ ap (λ (l : List Entry). l ++ entry ∷ []) c.reserve.ensures.items in
    let number : c.len.result ≡ length entries = search rules in
    let put : c.insert.new.self.entries ≡ insert_entry by_bytes c.self.inside.numbers.entries c.in_ok-key.key (length entries) = c.in_ok-insert.ensures.entries ∙ ap (insert_entry by_bytes c.self.inside.numbers.entries c.in_ok-key.key) number in
    subst (λ (l : List Entry). IsIndex l c.insert.new.self) (sym whole) (index_added entries c.self.inside.numbers c.insert.new.self entry c.in_ok-key.key c.self.invariant named put fresh few c.requires.can)
