use Rattle.ten_files.proofs.Names.{bytes_at-number}
use Rattle.ten_files.proofs.laws.bytes_of_a_number_are_its_files.Goals as goal

pub returns : goal.returns
returns c = bytes_at-number
