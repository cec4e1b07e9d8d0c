use Rattle.lo_tool.specs.declared.run.Status.TheVariants.{Done, Refused, Usage, BadInput, Fault, NoMemory}
use Rattle.lo_tool.proofs.Statuses.{completes, says, faultless}
use Rattle.lo_tool.proofs.run.run.Goals as goal

pub returns-clause-done : goal.returns-clause-done
returns-clause-done g c = says _ _ _ c.run_words.result Done c.run_words.ensures.leaves

pub returns-clause-usage : goal.returns-clause-usage
returns-clause-usage g c = says _ _ _ c.run_words.result Usage c.run_words.ensures.leaves

pub returns-clause-bad_input : goal.returns-clause-bad_input
returns-clause-bad_input g c = says _ _ _ c.run_words.result BadInput c.run_words.ensures.leaves

pub returns-clause-fault : goal.returns-clause-fault
returns-clause-fault g c = says _ _ _ c.run_words.result Fault c.run_words.ensures.leaves

pub returns-clause-no_memory : goal.returns-clause-no_memory
returns-clause-no_memory g c = says _ _ _ c.run_words.result NoMemory c.run_words.ensures.leaves

pub returns-clause-refused : goal.returns-clause-refused
returns-clause-refused g c = says _ _ _ c.run_words.result Refused c.run_words.ensures.leaves

pub returns-clause-faultless : goal.returns-clause-faultless
returns-clause-faultless g c = faultless _ _ _ c.run_words.result c.run_words.ensures.leaves

pub returns-clause-complete : goal.returns-clause-complete
returns-clause-complete g c = completes _ _ _ c.run_words.result c.run_words.ensures.leaves
