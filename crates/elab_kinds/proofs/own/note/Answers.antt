use Rattle.std.proofs.Common.{ap, ◌∙◌, ℕ, ◌+◌, List, Bool}
use Rattle.std.specs.Prelude.{◌||◌, if◌then◌else◌}
use Rattle.std.specs.Str.{bytes_eq}
use Rattle.indexmap.specs.IndexSet.{index_set_len}
use Rattle.elab_kinds.specs.Names.{has}
use Rattle.elab_kinds.specs.Sized.{count_new}
use Rattle.elab_kinds.proofs.Adding.{has-insert}
use Rattle.elab_kinds.proofs.Counting.{note-one}
use Rattle.elab_kinds.proofs.own.note.Goals as goal

pub returns : goal.returns
returns c = λ type others.
    note-one (index_set_len c.args.known.now) (index_set_len c.insert.new.self) c.in_ok-insert.field-0 (has c.args.known.now c.as_slice.result.now)
    (count_new (λ t. has c.args.known.now t || bytes_eq t c.as_slice.result.now) others) (count_new (has c.insert.new.self) others)
    c.in_ok-insert.ensures.added c.in_ok-insert.ensures.len
    (ap (λ (h : List ℕ → Bool). count_new h others) (λ i t. has-insert c.args.known.now c.insert.new.self c.as_slice.result c.in_ok-insert.ensures.updates.0 t i))
    ∙ ap (λ n. index_set_len c.args.known.now + ((if has c.args.known.now n then 0 else 1) + count_new (λ t. has c.args.known.now t || bytes_eq t n) others)) c.as_slice.ensures
