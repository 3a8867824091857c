use Rattle.agglo_program.proofs.Explained.{is_segmented, is_made, is_tried, done_not_flawed, no_settings_told, words_told, glance_told, spelled_may_be, input_told, output_told, quiet_told, exactly_told, complete_told, misses_judged}
use Rattle.agglo_program.proofs.Endings.{may_be_done, kinds_told}
use Rattle.agglo_program.proofs.top_call.agglo.Goals as goal

pub returns-in-Ok-clause-segmented : goal.returns-in-Ok-clause-segmented
returns-in-Ok-clause-segmented g c = λ _. is_segmented _ _ _ c.one_task.ensures c.in-Ok.ensures

pub returns-in-Ok-clause-made : goal.returns-in-Ok-clause-made
returns-in-Ok-clause-made g c = λ _. is_made _ _ _ c.one_task.ensures c.in-Ok.ensures

pub returns-in-Ok-clause-tried : goal.returns-in-Ok-clause-tried
returns-in-Ok-clause-tried g c = λ _. is_tried _ _ _ c.one_task.ensures c.in-Ok.ensures

pub returns-in-Ok-clause-no_settings_are_refused : goal.returns-in-Ok-clause-no_settings_are_refused
returns-in-Ok-clause-no_settings_are_refused g c = λ none. absurd (none _ c.in-Ok.ensures.spelled)

pub returns-in-Ok-clause-words_are_refused_at_once : goal.returns-in-Ok-clause-words_are_refused_at_once
returns-in-Ok-clause-words_are_refused_at_once g c = λ bad. absurd (bad (spelled_may_be _ _ c.in-Ok.ensures.spelled))

pub returns-in-Ok-clause-flaws_are_found : goal.returns-in-Ok-clause-flaws_are_found
returns-in-Ok-clause-flaws_are_found g c = λ status n. done_not_flawed _ _ _ _ c.one_task.ensures c.in-Ok.ensures status n

pub returns-in-Ok-clause-statuses_of_command : goal.returns-in-Ok-clause-statuses_of_command
returns-in-Ok-clause-statuses_of_command g c = λ task spelled. may_be_done task

pub returns-in-Err-clause-statuses_of_command : goal.returns-in-Err-clause-statuses_of_command
returns-in-Err-clause-statuses_of_command g c = kinds_told c.in-Err.refusal _ _ _ _ c.refuse.ensures.status c.one_task.ensures c.in-Err.ensures

pub returns-in-Err-clause-refused_words_are_no_settings : goal.returns-in-Err-clause-refused_words_are_no_settings
returns-in-Err-clause-refused_words_are_no_settings g c = no_settings_told c.in-Err.refusal _ _ _ _ c.refuse.ensures.status c.in-Err.ensures

pub returns-in-Err-clause-no_settings_are_refused : goal.returns-in-Err-clause-no_settings_are_refused
returns-in-Err-clause-no_settings_are_refused g c = words_told c.in-Err.refusal _ _ _ _ c.refuse.ensures.status c.in-Err.ensures

pub returns-in-Err-clause-words_are_refused_at_once : goal.returns-in-Err-clause-words_are_refused_at_once
returns-in-Err-clause-words_are_refused_at_once g c = glance_told c.in-Err.refusal _ _ _ _ c.refuse.ensures.status c.in-Err.ensures

pub returns-in-Err-clause-input_fault_was_counted : goal.returns-in-Err-clause-input_fault_was_counted
returns-in-Err-clause-input_fault_was_counted g c = input_told c.in-Err.refusal _ _ _ _ _ c.refuse.ensures.status c.in-Err.ensures c.refuse.ensures.told

pub returns-in-Err-clause-output_fault_was_counted : goal.returns-in-Err-clause-output_fault_was_counted
returns-in-Err-clause-output_fault_was_counted g c = output_told c.in-Err.refusal _ _ _ _ _ c.refuse.ensures.status c.in-Err.ensures c.refuse.ensures.told

pub returns-in-Err-clause-nothing_is_written_early : goal.returns-in-Err-clause-nothing_is_written_early
returns-in-Err-clause-nothing_is_written_early g c = quiet_told c.in-Err.refusal _ _ _ _ _ c.refuse.ensures.status c.in-Err.ensures c.refuse.ensures.told

pub returns-in-Err-clause-flaws_are_found : goal.returns-in-Err-clause-flaws_are_found
returns-in-Err-clause-flaws_are_found g c = exactly_told c.in-Err.refusal _ _ _ _ c.refuse.ensures.status c.one_task.ensures c.in-Err.ensures

pub returns-in-Err-clause-good_input_is_done : goal.returns-in-Err-clause-good_input_is_done
returns-in-Err-clause-good_input_is_done g c =
    complete_told c.in-Err.refusal _ _ _ _ _ c.refuse.ensures.status c.one_task.ensures c.in-Err.ensures c.refuse.ensures.told

pub returns-in-Err-clause-only_the_input_is_missed : goal.returns-in-Err-clause-only_the_input_is_missed
returns-in-Err-clause-only_the_input_is_missed g c = misses_judged c.in-Err.refusal _ _ _ _ c.in-Err.ensures c.refuse.ensures.told
