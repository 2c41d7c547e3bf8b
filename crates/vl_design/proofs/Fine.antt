-- Values are as the design's signals have them, at each boundary and after each act.
use Rattle.std.proofs.Common.{◌≡◌, ℕ, zero, suc, ◌^◌, ◌<◌, Bool, true, false, List, [], ◌∷◌, ◌++◌, length, take, drop, Option, Some, None, refl, ap, ◌∙◌, subst, arith}
use Rattle.std.specs.Prelude.{⊤, All, replicate, if◌then◌else◌}
use Rattle.std.proofs.lemmas.Nat.{pow_pos}
use Rattle.std.proofs.Math.Seq.{take-append_seam, drop-append_seam}
use Rattle.std.proofs.lemmas.List.{length-replicate}
use Rattle.std.proofs.lemmas.List.Elements.{All-replicate}
use Rattle.vl_base.specs.declared.files.File.{File}
use Rattle.vl_design.specs.Syntax.{Task, Row, Flat}
use Rattle.vl_design.specs.Value.{words_of}
use Rattle.vl_design.specs.State.{State}
use Rattle.vl_design.specs.Functions.{scope_of, zeros}
use Rattle.vl_design.specs.Queue.{Queue}
use Rattle.vl_design.specs.Snapshots.{Snapshot, is_kept, kept_words, kept_values}
use Rattle.vl_design.specs.Alone.{Origin, Boundary, first_queue}
use Rattle.vl_design.specs.Acts.{Point, state_at, After, Before}
use Rattle.vl_design.specs.Laws.{InRange, IsFine, StartsFine}
use Rattle.vl_design.proofs.Ranging.{exec_in_range, call_in_range, updates_in_range, zeros_in_range}
use Rattle.vl_design.proofs.Shaping.{shape_same, shape_on, exec_shape, call_shape, all_shape}
use Rattle.vl_design.proofs.Acting.{EventSteps, any_parts}
use Rattle.vl_design.proofs.Lasting.{boundary_lasts, after_lasts, before_lasts}

abbrev Holds : Flat → State → State → Type 0
Holds d s t = IsFine d.rows s.values → IsFine d.rows t.values

events_hold : (d : Flat) (files : List File) → EventSteps d files (λ a. ⊤) (Holds d)
events_hold d files = record {
  kind = any_parts;
  procs = λ i p l. tt;
  same = λ s f. f;
  next = λ a b c f g h. g (f h);
  execs = λ a h s f. record { range = exec_in_range (scope_of d files) a s f.range; shape = shape_on (exec_shape (scope_of d files) a s) f.shape };
  counts = λ s f. f;
  calls = λ task h s f. record { range = call_in_range (scope_of d files) task s f.range; shape = shape_on (call_shape (scope_of d files) task s) f.shape };
  updates = λ s f. record { range = updates_in_range d.rows s.later s.values f.range; shape = shape_on (all_shape d.rows s.later s.values) f.shape };
  rises = λ s f. f;
}

pub zeros_fine : (rows : List Row) → IsFine rows (zeros rows)
zeros_fine rows = record { range = zeros_in_range rows; shape = shape_same (zeros rows) }

first_fine : (o : Origin) (s : Option Snapshot) → StartsFine o.flat.rows s → IsFine o.flat.rows (first_queue o s).state.values
first_fine o None h = zeros_fine o.flat.rows
first_fine o (Some s) h = h

pub boundary_fine : {o : Origin} {k : ℕ} {q : Queue} → StartsFine o.flat.rows o.resume → Boundary o k q → IsFine o.flat.rows q.state.values
boundary_fine {o} h x = boundary_lasts o (λ a. ⊤) (λ s. IsFine o.flat.rows s.values) (events_hold o.flat o.files) (first_fine o o.resume h) x

pub acts_fine : {o : Origin} {c : ℕ} {p : Point} → StartsFine o.flat.rows o.resume → After o c p → IsFine o.flat.rows (state_at p).values
acts_fine {o} h x = after_lasts o (λ a. ⊤) (λ s. IsFine o.flat.rows s.values) (events_hold o.flat o.files) (first_fine o o.resume h) x

pub calls_fine : {o : Origin} {c : ℕ} {task : Task} {p : Point} → StartsFine o.flat.rows o.resume → Before o c task p → IsFine o.flat.rows (state_at p).values
calls_fine {o} h x = before_lasts o (λ a. ⊤) (λ s. IsFine o.flat.rows s.values) (events_hold o.flat o.files) (first_fine o o.resume h) x

-- ---- snapshots

-- the values of the signals that are kept; the others are 0
abbrev held_values : List Row → List (List ℕ) → List (List ℕ)
held_values [] values = []
held_values (r ∷ rs) [] = []
held_values (r ∷ rs) (ws ∷ wss) = (if is_kept r.kind then ws else replicate r.words 0) ∷ held_values rs wss

pub less_fine : (r : Row) (rs : List Row) (ws : List ℕ) (wss : List (List ℕ)) → IsFine (r ∷ rs) (ws ∷ wss) → IsFine rs wss
less_fine r rs ws wss f =
    let m = f.shape.many in
    record { range = λ k. f.range (suc k); shape = record { many = omega arith; words = λ k. f.shape.words (suc k) } }

kept_held : (rows : List Row) (values : List (List ℕ)) → IsFine rows values → kept_values rows (kept_words rows values) ≡ held_values rows values
kept_held [] values f = refl
kept_held (r ∷ rs) [] f = let m = f.shape.many in absurd (omega arith)
kept_held (r ∷ rs) (ws ∷ wss) f = at (kept_held rs wss (less_fine r rs ws wss f)) (is_kept r.kind)
  where
    rest : List ℕ
    rest = kept_words rs wss

    size : length ws ≡ r.words
    size = f.shape.words 0 ∙ length-replicate r.words 0

    at : kept_values rs rest ≡ held_values rs wss → (b : Bool) → (if b then take r.words ((if b then ws else []) ++ rest) ∷ kept_values rs (drop r.words ((if b then ws else []) ++ rest)) else replicate r.words 0 ∷ kept_values rs ((if b then ws else []) ++ rest))
        ≡ (if b then ws else replicate r.words 0) ∷ held_values rs wss
    at others true = subst (λ n. take n (ws ++ rest) ∷ kept_values rs (drop n (ws ++ rest)) ≡ ws ∷ held_values rs wss) size (rw (take-append_seam ws rest, drop-append_seam ws rest) (ap (λ z. ws ∷ z) others))
    at others false = ap (λ z. replicate r.words 0 ∷ z) others

held_fine : (rows : List Row) (values : List (List ℕ)) → IsFine rows values → IsFine rows (held_values rows values)
held_fine [] values f = zeros_fine []
held_fine (r ∷ rs) [] f = let m = f.shape.many in absurd (omega arith)
held_fine (r ∷ rs) (ws ∷ wss) f = go (held_fine rs wss (less_fine r rs ws wss f))
  where
    first : (b : Bool) → All (λ v. v < 2 ^ r.width) (if b then ws else replicate r.words 0)
    first true = f.range 0
    first false = All-replicate (λ v. v < 2 ^ r.width) r.words 0 (pow_pos r.width)

    many : (b : Bool) → length (if b then ws else replicate r.words 0) ≡ length {A = ℕ} (replicate r.words 0)
    many true = f.shape.words 0
    many false = refl

    range : IsFine rs (held_values rs wss) → InRange (r ∷ rs) ((if is_kept r.kind then ws else replicate r.words 0) ∷ held_values rs wss)
    range others zero = first (is_kept r.kind)
    range others (suc k) = others.range k

    words : IsFine rs (held_values rs wss) → (k : ℕ) → length (words_of ((if is_kept r.kind then ws else replicate r.words 0) ∷ held_values rs wss) k) ≡ length (words_of (replicate r.words 0 ∷ zeros rs) k)
    words others zero = many (is_kept r.kind)
    words others (suc k) = others.shape.words k

    go : IsFine rs (held_values rs wss) → IsFine (r ∷ rs) (held_values (r ∷ rs) (ws ∷ wss))
    go others = record { range = range others; shape = record { many = ap suc others.shape.many; words = words others } }

pub kept_fine : (rows : List Row) (values : List (List ℕ)) → IsFine rows values → IsFine rows (kept_values rows (kept_words rows values))
kept_fine rows values f = rw (kept_held rows values f) (held_fine rows values f)
