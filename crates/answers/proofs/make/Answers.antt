-- By the call: what it gives is its outcome, and its line is what is said of that.
use Rattle.answers.specs.Answers.{call_response}
use Rattle.answers.proofs.Tellings.{line_told}
use Rattle.answers.proofs.make.Goals as goal

pub returns-in-Plain : goal.returns-in-Plain
unfolding call_response
returns-in-Plain c = rw c.in-Plain.is (line_told _ _ c.plain.ensures c.put_told.ensures)

pub returns-in-StartStop : goal.returns-in-StartStop
unfolding call_response
returns-in-StartStop c = rw c.in-StartStop.is (line_told _ _ c.start_stop.ensures c.put_told-in-StartStop.ensures)

pub returns-in-Next : goal.returns-in-Next
unfolding call_response
returns-in-Next c = rw c.in-Next.is (line_told _ _ c.next.ensures c.put_told-in-Next.ensures)

pub returns-in-Answer : goal.returns-in-Answer
unfolding call_response
returns-in-Answer c = rw c.in-Answer.is (line_told _ _ c.answer.ensures c.put_told-in-Answer.ensures)

pub returns-in-Sense : goal.returns-in-Sense
unfolding call_response
returns-in-Sense c = rw c.in-Sense.is c.sense.ensures

pub returns-in-Log : goal.returns-in-Log
unfolding call_response
returns-in-Log c = rw c.in-Log.is c.log.ensures

pub returns-in-Transitions : goal.returns-in-Transitions
unfolding call_response
returns-in-Transitions c = rw c.in-Transitions.is c.log-in-Transitions.ensures

pub returns-in-NewPage : goal.returns-in-NewPage
unfolding call_response
returns-in-NewPage c = rw c.in-NewPage.is c.log-in-NewPage.ensures

pub returns-in-PageFaults : goal.returns-in-PageFaults
unfolding call_response
returns-in-PageFaults c = rw c.in-PageFaults.is c.page_faults.ensures

pub returns-in-PageRecord : goal.returns-in-PageRecord
unfolding call_response
returns-in-PageRecord c = rw c.in-PageRecord.is c.page_record.ensures
