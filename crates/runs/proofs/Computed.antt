-- Runs that are computed: one name for all that a step looks into.
use Rattle.transitions.specs.Counts.{counts_after, table_of, counted_in, flat_of}
use Rattle.transitions.specs.Page.{parameter_bytes, transition_bytes}
use Rattle.drive.specs.Records.{record_well_formed, records_well_formed, drive_well_formed}
use Rattle.drive.specs.Drives.{timers_ask, ticked, used, powered_on, made}
use Rattle.senses.specs.Senses.{sense_bytes}
use Rattle.epc.specs.Epc.{aborts, performed}
use Rattle.unit.specs.Units.{hosts_well_formed, well_formed}
use Rattle.refusals.specs.Refusals.{lowest}
use Rattle.engine.specs.Engine.{epc_outcome, tick_outcome, read_outcome, write_outcome, power_on_outcome, reset_outcome}
use Rattle.readouts.specs.Readouts.{sense_outcome, log_outcome, transitions_outcome}
use Rattle.cdb.specs.Cdb.{wanted, is_listed}
use Rattle.exchange.specs.Answered.{answered_for}
use Rattle.bridge.specs.Bridge.{start_stop_outcome}
use Rattle.exchange.specs.Exchange.{next_outcome, answer_outcome}
use Rattle.calls.specs.Calls.{StepFunction, outcome}

-- The layer's step. Who says `unfolding computed` has open what its line names, and so can compute a run of these calls.
unfoldable pub computed : StepFunction
unfolding counts_after table_of counted_in flat_of record_well_formed records_well_formed drive_well_formed timers_ask ticked used powered_on made sense_bytes aborts performed
    hosts_well_formed well_formed lowest epc_outcome tick_outcome read_outcome write_outcome power_on_outcome reset_outcome sense_outcome log_outcome
    transitions_outcome parameter_bytes transition_bytes
    wanted is_listed answered_for start_stop_outcome next_outcome answer_outcome
computed = outcome
