-- The facts hold of the calls' outcomes: each is computed.
use mathlib.Core.Path.{refl}
use Rattle.transitions.specs.Counts.{counts_after, table_of, counted_in, flat_of}
use Rattle.transitions.specs.Page.{parameter_bytes, transition_bytes}
use Rattle.drive.specs.Records.{record_well_formed, records_well_formed, drive_well_formed}
use Rattle.drive.specs.Drives.{timers_ask, ticked, used, powered_on, made}
use Rattle.epc.specs.Epc.{aborts, performed}
use Rattle.unit.specs.Units.{hosts_well_formed, well_formed}
use Rattle.refusals.specs.Refusals.{lowest}
use Rattle.engine.specs.Engine.{epc_outcome, tick_outcome, read_outcome, write_outcome, power_on_outcome, reset_outcome}
use Rattle.readouts.specs.Readouts.{sense_outcome, log_outcome, transitions_outcome, new_page_outcome}
use Rattle.pages.specs.Logs.{logged_words, log_words, log_bytes}
use Rattle.published.specs.Descriptors.{descriptor, descriptor_page}
use Rattle.senses.specs.Senses.{sense_bytes}
use Rattle.cdb.specs.Cdb.{wanted, is_listed}
use Rattle.exchange.specs.Answered.{answered_for}
use Rattle.bridge.specs.Bridge.{start_stop_outcome}
use Rattle.exchange.specs.Exchange.{next_outcome, answer_outcome}
use Rattle.calls.specs.Calls.{outcome}
use Rattle.calls.specs.Facts.{number_1, number_2, number_3, recovery_3, timer_3, largest_numbers, slot_3, number_4, out_read, out_start, out_next, out_sense, out_epc, number_5, none_out, number_6, number_7, number_8, byte_2, modifier_1, number_9, written_9, number_10, by_current, not_by_saved, unsupported_z, verify_sent, verify_bad, verify_stays, verify_held, verify_told, start_starts, start_stays, start_1h, goes_starts, goes_stays, epc_keeps, epc_stays, restores_saved, timer_16, timer_not_on, flag_by_saved, flag_off, idle_counts, idle_stays, fails_told, fails_held, stop_fails, goes_fails, flushes_255, flushes_stay, page_1a, page_51, page_53, page_3, page_out, counts_timer, counts_deepest, counts_use, counts_low, counts_held, counts_cause, counts_flush, counts_bad, counts_fill, counts_full, resets_keep, power_on_counts, power_on_held, every_fixed, every_saved, every_unsaved, every_none, fixed_alone, fixed_goes, number_11, draft_11, one_before_11, three_before_11, eleven_not_4, idle_page, standby_page, old_page, minutes_set, minutes_saved, minutes_zero, draft_minutes, state_minutes, long_timer_3, long_idle_3, long_numbers, idle_goes_on, idle_fills, poll_keeps, told_keeps, polled_sleeps, Facts}

pub facts : Facts outcome
unfolding counts_after table_of counted_in flat_of parameter_bytes transition_bytes record_well_formed records_well_formed drive_well_formed timers_ask ticked used powered_on made aborts performed hosts_well_formed well_formed lowest epc_outcome tick_outcome read_outcome write_outcome power_on_outcome reset_outcome sense_outcome log_outcome transitions_outcome new_page_outcome logged_words log_words log_bytes descriptor descriptor_page sense_bytes wanted is_listed answered_for start_stop_outcome next_outcome answer_outcome
facts number_1 = refl
facts number_2 = refl
facts number_3 = refl
facts recovery_3 = refl
facts timer_3 = refl
facts largest_numbers = refl
facts slot_3 = refl
facts number_4 = refl
facts out_read = refl
facts out_start = refl
facts out_next = refl
facts out_sense = refl
facts out_epc = refl
facts number_5 = refl
facts none_out = refl
facts number_6 = refl
facts number_7 = refl
facts number_8 = refl
facts byte_2 = refl
facts modifier_1 = refl
facts number_9 = refl
facts written_9 = refl
facts number_10 = refl
facts by_current = refl
facts not_by_saved = refl
facts unsupported_z = refl
facts verify_sent = refl
facts verify_bad = refl
facts verify_stays = refl
facts verify_held = refl
facts verify_told = refl
facts start_starts = refl
facts start_stays = refl
facts start_1h = refl
facts goes_starts = refl
facts goes_stays = refl
facts epc_keeps = refl
facts epc_stays = refl
facts restores_saved = refl
facts timer_16 = refl
facts timer_not_on = refl
facts flag_by_saved = refl
facts flag_off = refl
facts idle_counts = refl
facts idle_stays = refl
facts fails_told = refl
facts fails_held = refl
facts stop_fails = refl
facts goes_fails = refl
facts flushes_255 = refl
facts flushes_stay = refl
facts page_1a = refl
facts page_51 = refl
facts page_53 = refl
facts page_3 = refl
facts page_out = refl
facts counts_timer = refl
facts counts_deepest = refl
facts counts_use = refl
facts counts_low = (refl, refl, refl)
facts counts_held = refl
facts counts_cause = (refl, refl, refl)
facts counts_flush = refl
facts counts_bad = refl
facts counts_fill = (refl, refl, refl)
facts counts_full = (refl, refl, refl)
facts resets_keep = (refl, refl, refl)
facts power_on_counts = refl
facts power_on_held = (refl, refl, refl)
facts every_fixed = refl
facts every_saved = refl
facts every_unsaved = refl
facts every_none = refl
facts fixed_alone = refl
facts fixed_goes = refl
facts number_11 = refl
facts draft_11 = refl
facts one_before_11 = refl
facts three_before_11 = refl
facts eleven_not_4 = refl
facts idle_page = refl
facts standby_page = refl
facts old_page = refl
facts minutes_set = refl
facts minutes_saved = refl
facts minutes_zero = refl
facts draft_minutes = refl
facts state_minutes = refl
facts long_timer_3 = refl
facts long_idle_3 = refl
facts long_numbers = refl
facts idle_goes_on = refl
facts idle_fills = refl
facts poll_keeps = (refl, refl)
facts told_keeps = (refl, refl)
facts polled_sleeps = (refl, refl)
