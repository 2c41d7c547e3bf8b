use Rattle.sub_runs.proofs.Narrow.{hold_rest, zero_rest}
use Rattle.sub_runs.proofs.laws.what_no_process_drives_is_zero.Goals as goal

pub returns : goal.returns
returns c = record {
  hold = λ d order files i k o n f fine committed h. hold_rest d n k order o files i f fine committed h;
  zero = λ d i n fine h. zero_rest d n i fine h;
}
