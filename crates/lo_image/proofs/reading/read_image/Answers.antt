use Rattle.std.proofs.Common.{Ok, ap, length, arith}
use Rattle.lo_image.specs.Reading.{placed}
use Rattle.lo_image.proofs.ImageLaws.{found_is, only_is, no_fault}
use Rattle.lo_image.proofs.Stays.{image_fault_within}
use Rattle.lo_image.proofs.reading.read_image.Goals as goal

pub overflow_sub-result : goal.overflow_sub-result
overflow_sub-result c = image_fault_within c.args.bytes.now c.in-Err-At.fault (rw c.in-Err-At.field-0-is at c.in-Err-At.ensures)

pub returns-in-Ok-clause-found : goal.returns-in-Ok-clause-found
returns-in-Ok-clause-found c = found_is c.args.bytes.now _ (λ i. omega (arith, c.type_inv.bytes i)) c.in-Ok.ensures

pub returns-in-Ok-clause-only : goal.returns-in-Ok-clause-only
returns-in-Ok-clause-only c = λ d is e. only_is c.args.bytes.now (Ok _) (ap (placed (length c.args.bytes.now)) c.in-Ok.ensures) d is e

pub returns-in-Err-At-clause-only : goal.returns-in-Err-At-clause-only
returns-in-Err-At-clause-only c = λ d is e. no_fault c.args.bytes.now c.in-Err-At.fault (rw c.in-Err-At.field-0-is at c.in-Err-At.ensures) d is e
