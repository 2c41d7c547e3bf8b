use Rattle.host_text.proofs.Readings.{reading-of, fault-of, is-read, is-fault, not-both, one-script, one-fault}
use Rattle.host_text.proofs.text_laws.a_script_has_one_reading_or_one_first_fault.Goals as goal

pub returns : goal.returns
returns c = record { read = reading-of; is_read = is-read; fault = fault-of; is_fault = is-fault; not_both = not-both; one_reading = one-script; one_fault = one-fault }
