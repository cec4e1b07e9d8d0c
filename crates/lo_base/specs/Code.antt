use Rattle.std.specs.Prelude.{ℕ, List, codes}
use Rattle.lo_base.specs.declared.refusal.Code.{Code}
use Rattle.lo_base.specs.declared.refusal.Code.TheVariants.{C25P02, C25P01, C25001, C3B001, C42704, C42P01, C42P07, C42703, C42804, C02000, C23505, C34000, C42P03, C22023, C55000, C22003, C22P02, C54000, C55P03, C53100}

-- the five characters of an SQLSTATE code
abbrev pub sqlstate_of : Code → List ℕ
sqlstate_of C25P02 = codes "25P02"
sqlstate_of C25P01 = codes "25P01"
sqlstate_of C25001 = codes "25001"
sqlstate_of C3B001 = codes "3B001"
sqlstate_of C42704 = codes "42704"
sqlstate_of C42P01 = codes "42P01"
sqlstate_of C42P07 = codes "42P07"
sqlstate_of C42703 = codes "42703"
sqlstate_of C42804 = codes "42804"
sqlstate_of C02000 = codes "02000"
sqlstate_of C23505 = codes "23505"
sqlstate_of C34000 = codes "34000"
sqlstate_of C42P03 = codes "42P03"
sqlstate_of C22023 = codes "22023"
sqlstate_of C55000 = codes "55000"
sqlstate_of C22003 = codes "22003"
sqlstate_of C22P02 = codes "22P02"
sqlstate_of C54000 = codes "54000"
sqlstate_of C55P03 = codes "55P03"
sqlstate_of C53100 = codes "53100"
