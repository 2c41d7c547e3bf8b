-- Lists of cells, as the program has them, are as long as those of their data.
use Rattle.std.proofs.lemmas.List.{length-map}

pub ruleset lengths = (length-map)
