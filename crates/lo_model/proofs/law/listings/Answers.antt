use Rattle.lo_model.proofs.ListingLaws.{ids_are, ids_ascend, oids_are, oids_ascend}
use Rattle.lo_model.proofs.law.listings.Goals as goal

pub returns-clause-oids : goal.returns-clause-oids
returns-clause-oids c = oids_are

pub returns-clause-oids_ascend : goal.returns-clause-oids_ascend
returns-clause-oids_ascend c = oids_ascend

pub returns-clause-ids : goal.returns-clause-ids
returns-clause-ids c = ids_are

pub returns-clause-ids_ascend : goal.returns-clause-ids_ascend
returns-clause-ids_ascend c = ids_ascend
