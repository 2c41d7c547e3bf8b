use Rattle.std.proofs.Common.{◌≡◌}
use Rattle.host_files.specs.fab_io.specs.Memory as memory
use Rattle.host_demo.specs.Sources.{files_of}
use Rattle.host_demo.proofs.store.store_of.Given as goal

abbrev pub invariant-loop-before : goal.invariant-loop-before
invariant-loop-before l = memory.files_of l.store.files ≡ files_of l.before
