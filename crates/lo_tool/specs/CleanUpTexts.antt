-- What a clean-up tells of itself. (Manual, vacuumlo.)
use Rattle.std.specs.Prelude.{ℕ, Bool, List, [], ◌++◌, length, flat_map, codes, decimal, if◌then◌else◌}
use Rattle.lo_machine.specs.SweepLaw.{Sweeping, listed, rest, scans}
use Rattle.orphan_sweep.specs.declared.act.Scan.{Scan}
use Rattle.orphan_sweep.specs.declared.act.SweepAct.{SweepAct}
use Rattle.orphan_sweep.specs.declared.act.SweepAct.TheVariants as acts
use Rattle.orphan_sweep.specs.Rest.{groups}
use Rattle.lo_tool.specs.declared.words.CleanUp.{CleanUp}

-- a number in a line
abbrev pub counted_line : (before : List ℕ) (count : ℕ) (after : List ℕ) → List ℕ
counted_line before count after = before ++ decimal count ++ after

-- how many objects are listed
abbrev pub listed_line : (count : ℕ) → List ℕ
listed_line count = counted_line (codes "listed ") count (codes "\n")

-- a column was scanned
abbrev pub checked_line : (table column : List ℕ) → List ℕ
checked_line table column = codes "checked " ++ table ++ codes "." ++ column ++ codes "\n"

abbrev pub scan_line : Scan → List ℕ
scan_line scan = checked_line scan.table scan.column

-- an object is removed, or would be
abbrev pub removing_line : (oid : ℕ) → List ℕ
removing_line oid = counted_line (codes "removing ") oid (codes "\n")

abbrev pub would_remove_line : (oid : ℕ) → List ℕ
would_remove_line oid = counted_line (codes "would remove ") oid (codes "\n")

-- the removal of a group of objects, with how many it has
abbrev pub group_lines : (group : List ℕ) → List ℕ
group_lines group =
    flat_map removing_line group ++ counted_line (codes "committed ") (length group) (codes "\n")

-- how many were removed, or would be
abbrev pub removed_line : (count : ℕ) → List ℕ
removed_line count = counted_line (codes "removed ") count (codes " large objects\n")

abbrev pub would_line : (count : ℕ) → List ℕ
would_line count = counted_line (codes "would remove ") count (codes " large objects\n")

-- the line of an act: a scan alone has one
abbrev pub act_line : SweepAct → List ℕ
act_line (acts.Scan table column) = checked_line table column
act_line _ = []

-- what a clean-up is told to tell is told, else nothing
abbrev pub where_told : (verbose : Bool) → List ℕ → List ℕ
where_told verbose text = if verbose then text else []

-- each object of the rest, by groups where they are removed
abbrev pub rest_lines : CleanUp → (rest : List ℕ) → List ℕ
rest_lines options rest =
    if options.dry then flat_map would_remove_line rest else flat_map group_lines (groups options.limit rest)

-- A dry run tells in every case how many it would remove.
abbrev pub total_line : CleanUp → (count : ℕ) → List ℕ
total_line options count =
    if options.dry then would_line count else where_told options.verbose (removed_line count)

abbrev pub removal_text : CleanUp → (rest : List ℕ) → List ℕ
removal_text options rest = where_told options.verbose (rest_lines options rest) ++ total_line options (length rest)

-- all of it: the list, each scan, the rest, and how many that has
abbrev pub clean_up_text : CleanUp → Sweeping → List ℕ
clean_up_text options w =
    (where_told options.verbose (listed_line (length (listed w))) ++ where_told options.verbose (flat_map scan_line (scans w)))
    ++ removal_text options (rest w)
