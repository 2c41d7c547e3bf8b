-- Desks that are opened (own).
use Rattle.std.specs.Prelude.{◌≡◌, ℕ, ◌<◌, ◌∷◌, length, slice_index_or}
use Rattle.fab_desk.specs.fab_bay.specs.declared.noted.Label.{Label}
use Rattle.fab_rounds.specs.declared.posts.Opened.{Opened}
use Rattle.fab_rounds.specs.declared.workers.Worker.{Worker}
use Rattle.fab_rounds.specs.Ledgers.{labels_of, AreEmpty, AreFirsts, AreFresh, AreFreshWorkers, DeskFacts, IsWorker}

-- each desk has its first seat and its worker, and nothing was done at them
pub record AreSeated (o : Opened) : Type 0 where
  pub firsts : AreFirsts o.desks.items o.firsts.items
  pub count : length o.workers.items ≡ length o.desks.items
  pub fabric : (i : ℕ) (d : DeskFacts) (w : Worker) → i < length o.desks.items → (slice_index_or o.workers.items i w).fabric ≡ (slice_index_or o.desks.items i d).label.fabric
  pub each : (i : ℕ) (d : DeskFacts) (w : Worker) → i < length o.desks.items → IsWorker (slice_index_or o.desks.items i d) (slice_index_or o.workers.items i w)
  pub empty : AreEmpty o.workers.items
  pub fresh : AreFresh o.firsts.items
  pub fresh_workers : AreFreshWorkers o.workers.items

-- one desk more, before the others
pub record Opens (label : Label) (o o' : Opened) : Type 0 where
  pub seated : AreSeated o'
  pub labels : labels_of o'.desks.items ≡ label ∷ labels_of o.desks.items
