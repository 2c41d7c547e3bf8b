-- Names and words.
use Rattle.vl_eval.proofs.Names.{named-width, signal-named, memory-named, named-there}

pub ruleset leaves = (named-width, signal-named, memory-named, named-there)
