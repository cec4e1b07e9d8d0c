-- Runs of vacuumlo that are worked out by hand. Each must compute.
use Rattle.std.proofs.Common.{◌≡◌, ℕ, true, false, List, [], ◌∷◌, ◌++◌, refl, codes, replicate}
use Rattle.orphan_sweep.specs.declared.act.Scan.{Scan}
use Rattle.orphan_sweep.specs.declared.act.SweepAct.TheVariants.{Scan as Scanning, Begin, Unlink, Commit, Rollback, Report, Idle}
use Rattle.orphan_sweep.specs.declared.act.Told.{Told}
use Rattle.orphan_sweep.specs.declared.act.Told.TheVariants.{Found, Granted, Refused}
use Rattle.orphan_sweep.specs.Rest.{less, groups}
use Rattle.orphan_sweep.specs.History.{History, begun, next_act, removed_of, rest_of}
use Rattle.orphan_sweep.specs.Law.{asked, and_all_told}

-- five objects, two of them in the columns of two tables
abbrev objects : List ℕ
objects = 17000 ∷ 17001 ∷ 17002 ∷ 17003 ∷ 17004 ∷ []

abbrev columns : List Scan
columns =
    record { table = codes "a"; column = codes "o" } ∷ record { table = codes "b"; column = codes "p" } ∷ []

abbrev in_use : List Told
in_use = Found (17000 ∷ []) ∷ Found (17003 ∷ []) ∷ []

-- a dry run: the scans and the report, with three numbers that would be removed
dry : asked (begun true 1000 objects columns) (in_use ++ Granted ∷ []) ≡ Scanning (codes "a") (codes "o") ∷ Scanning (codes "b") (codes "p") ∷ Report ∷ []
dry = refl

dry_rest : rest_of (and_all_told (begun true 1000 objects columns) in_use) ≡ 17001 ∷ 17002 ∷ 17004 ∷ []
dry_rest = refl

-- at most two in one transaction
abbrev by_twos : History
by_twos = begun false 2 objects columns

in_twos : asked by_twos (in_use ++ replicate 8 Granted) ≡ Scanning (codes "a") (codes "o") ∷ Scanning (codes "b") (codes "p") ∷ Begin ∷ Unlink 17001 ∷ Unlink 17002 ∷ Commit ∷ Begin ∷ Unlink 17004 ∷ Commit ∷ Report ∷ []
in_twos = refl

first_two : removed_of (and_all_told by_twos (in_use ++ replicate 4 Granted)) ≡ 2
first_two = refl

all_three : removed_of (and_all_told by_twos (in_use ++ replicate 7 Granted)) ≡ 3
all_three = refl

over : next_act (and_all_told by_twos (in_use ++ replicate 8 Granted)) ≡ Idle
over = refl

-- run again, nothing is left to remove
again : asked (begun false 1000 (17000 ∷ 17003 ∷ []) columns) (in_use ++ Granted ∷ []) ≡ Scanning (codes "a") (codes "o") ∷ Scanning (codes "b") (codes "p") ∷ Report ∷ []
again = refl

-- four objects and no table, by twos; the last one was removed by another session
abbrev gone : History
gone = begun false 2 (17001 ∷ 17002 ∷ 17003 ∷ 17004 ∷ []) []

stopped : asked gone (replicate 6 Granted ++ Refused ∷ Granted ∷ Granted ∷ []) ≡ Begin ∷ Unlink 17001 ∷ Unlink 17002 ∷ Commit ∷ Begin ∷ Unlink 17003 ∷ Unlink 17004 ∷ Rollback ∷ Report ∷ []
stopped = refl

stopped_at_two : removed_of (and_all_told gone (replicate 6 Granted ++ Refused ∷ Granted ∷ Granted ∷ [])) ≡ 2
stopped_at_two = refl

-- no objects at all
nothing : asked (begun false 0 [] []) (Granted ∷ []) ≡ Report ∷ []
nothing = refl

none_removed : removed_of (and_all_told (begun false 0 [] []) (Granted ∷ [])) ≡ 0
none_removed = refl

-- two objects, one of them in use, without a limit
abbrev one_of_two : History
one_of_two = begun false 0 (17001 ∷ 17002 ∷ []) (record { table = codes "p"; column = codes "o" } ∷ [])

one_removed : asked one_of_two (Found (17001 ∷ []) ∷ replicate 4 Granted) ≡ Scanning (codes "p") (codes "o") ∷ Begin ∷ Unlink 17002 ∷ Commit ∷ Report ∷ []
one_removed = refl

one_counted : removed_of (and_all_told one_of_two (Found (17001 ∷ []) ∷ replicate 4 Granted)) ≡ 1
one_counted = refl

-- the groups by their limit, and numbers found that are not on the list or were found before
in_one : groups 0 objects ≡ objects ∷ []
in_one = refl

each_alone : groups 1 (17001 ∷ 17002 ∷ []) ≡ (17001 ∷ []) ∷ (17002 ∷ []) ∷ []
each_alone = refl

last_smaller : groups 2 objects ≡ (17000 ∷ 17001 ∷ []) ∷ (17002 ∷ 17003 ∷ []) ∷ (17004 ∷ []) ∷ []
last_smaller = refl

below_the_limit : groups 6 objects ≡ objects ∷ []
below_the_limit = refl

others_found : less objects (17003 ∷ 5 ∷ 17003 ∷ 90000 ∷ 17000 ∷ []) ≡ 17001 ∷ 17002 ∷ 17004 ∷ []
others_found = refl
