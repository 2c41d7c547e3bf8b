-- An accepted design meets the rules, one by one.
use Rattle.std.proofs.Common.{◌≡◌, ℕ, zero, suc, ◌<◌, true, false, List, [], ◌∷◌, ◌++◌, map, refl, sym, ap, ◌∙◌, subst}
use Rattle.std.specs.Prelude.{◌==◌, ◌⊎◌, slice_index_or, if◌then◌else◌, flat_map}
use Rattle.std.specs.List.{list_any}
use Rattle.std.proofs.lemmas.Bool.{true_from_ne_false, false_from_ne_true}
use Rattle.std.proofs.lemmas.List.Elements.{All-nil}
use Rattle.std.proofs.lemmas.List.Folds.{list_any-append}
use mathlib.Core.Logic.{inl, inr}
use Rattle.vl_latch.specs.vl_base.specs.declared.bits.UnOp.TheVariants.{LogNot}
use Rattle.vl_latch.specs.vl_base.specs.declared.place.Place.{Place}
use Rattle.vl_check.specs.vl_design.specs.declared.design.ProcKind.TheVariants.{Init, Comb, Assign}
use Rattle.vl_check.specs.vl_design.specs.declared.stop.Stop.{Stop}
use Rattle.vl_check.specs.vl_design.specs.declared.stop.Stop.TheVariants.{Construct}
use Rattle.vl_check.specs.vl_design.specs.Syntax as d
use Rattle.vl_check.specs.vl_design.specs.Width.{Scope, names_of}
use Rattle.vl_check.specs.vl_design.specs.Functions.{scope_of}
use Rattle.vl_check.specs.vl_design.specs.Queue.{is_comb, proc_at}
use Rattle.vl_check.specs.vl_design.specs.Reads.{stm_writes}
use Rattle.vl_check.specs.vl_design.specs.Laws.{IsUnrolledStm}
use Rattle.vl_check.specs.vl_design.specs.Sound.{IsNamed, IsSoundProc, IsSoundStm}
use Rattle.vl_check.specs.vl_design.specs.Placed as p
use Rattle.vl_check.specs.vl_design.specs.Plainly as plain
use Rattle.vl_check.specs.vl_sites.specs.Sites as s
use Rattle.vl_unroll.specs.vl_loops.specs.Unroll.{still, put, unrolled, unrolled_proc, unrolled_flat}
use Rattle.vl_unroll.specs.vl_loops.specs.Fits.{CanUnroll}
use Rattle.vl_unroll.specs.vl_loops.specs.Placed.{unrolled_placed}
use Rattle.vl_unroll.specs.vl_loops.proofs.Bare.{all_bare}
use Rattle.vl_unroll.specs.vl_loops.proofs.Calling.{alike}
use Rattle.vl_unroll.specs.vl_loops.proofs.Funs.{Alike}
use Rattle.vl_unroll.specs.vl_loops.proofs.Placing.{flat_plain}
use Rattle.vl_unroll.specs.vl_loops.proofs.Sounding.{flat_sound}
use Rattle.vl_runs.specs.vl_paths.specs.Bits.{Bit, is_of, bit_set, closed}
use Rattle.vl_runs.specs.vl_paths.specs.Paths.{always}
use Rattle.vl_runs.specs.vl_paths.specs.Touched.{touched}
use Rattle.vl_runs.specs.vl_paths.specs.Nets.{IsNetStm}
use Rattle.vl_runs.specs.vl_paths.specs.Graph.{drives}
use Rattle.vl_runs.specs.vl_paths.proofs.Ways.{and_true, or_left, assigned_exactly}
use Rattle.vl_check.specs.vl_design.specs.First.{In}
use Rattle.vl_check.specs.Bodies.{kind_is}
use Rattle.vl_check.specs.Writers.{is_store, excludes}
use Rattle.vl_check.specs.Standing.{process_faults, standing_faults}
use Rattle.vl_accept.specs.Built.{IsContinuous, IsBuilt}
use Rattle.vl_accept.specs.Fit.{IsFit}
use Rattle.vl_accept.proofs.Silent.{silent}
use Rattle.vl_accept.proofs.Pure.{NoWords, IsPure, pure, unrolled_pure, pure_quiet, pure_timeless, pure_net, one_word}
use Rattle.vl_accept.proofs.Faults.{faults_at, Hits, sets_hit, impure_free, no_clock, no_loop, no_rival}
use Rattle.cell_level.specs.vl_bits.specs.Drivers.{leaves, is_assign, assigned_parts, driven_parts, some_drives, is_net, IsAgain, IsSecond, IsDrivenTwice}
use Rattle.cell_level.specs.vl_bits.proofs.Testing.{not_both}
use Rattle.vl_latch.specs.Partly.{IsPartly}
use Rattle.vl_latch.specs.Faults.{IsProcessFault}
use Rattle.vl_accept.specs.Accepted.{IsAccepted}
use Rattle.vl_accept.proofs.Fitting.{unrolls}
use Rattle.vl_runs.specs.NetsOfSettle.{is_memory, comb_at}
use Rattle.vl_runs.specs.Checked.{IsChecked}
use Rattle.vl_runs.proofs.Calming.{idle}
use Rattle.vl_runs.proofs.Checks.{itself}
use Rattle.vl_runs.proofs.Writes.{touched_writes}
use Rattle.vl_accept.proofs.Constants.{target_same, set_same, set_sure, leaves_set}
use Rattle.vl_accept.proofs.Finding.{At, same_or_not, found, earlier, some_split, flat_any, all_at, all_index, any_of}
use Rattle.vl_accept.proofs.Written.{written_there, kinds, excludes_left, excludes_right, no_assign, is_assign_kind}

module _ (x : p.Design) (fit : IsFit x) (acc : IsAccepted x) where
  abbrev D : d.Flat
  D = plain.flat x

  abbrev E : d.Flat
  E = unrolled_flat (plain.flat x)

  abbrev scope : Scope
  scope = scope_of (plain.flat x) []

  none_in : (fs : List Stop) → ((f : Stop) → In f fs → ⊥) → fs ≡ []
  none_in [] h = refl
  none_in (y ∷ ys) h = absurd (h y (inl refl))

  standing : standing_faults x ≡ []
  standing = none_in (standing_faults x) (λ f w. acc.uses f (inl w))

  can : CanUnroll D
  can = unrolls x fit acc.uses

  -- ---- the process of a number

  record Here (i : ℕ) : Type 0 where
    at : At x.processes i
    is : proc_at E i ≡ unrolled_proc scope (plain.proc at.it)

  here_or_idle : (i : ℕ) → Here i ⊎ (proc_at E i ≡ idle)
  here_or_idle i = elim (found (λ (a : p.Process). unrolled_proc scope (plain.proc a)) idle x.processes i) [
    | inl y ↦ inl (record { at = y.0; is = two i x.processes ∙ y.1 })
    | inr e ↦ inr (two i x.processes ∙ e)
  ]
    where
      two : (i : ℕ) (ps : List p.Process) → slice_index_or (map (unrolled_proc scope) (map plain.proc ps)) i idle ≡ slice_index_or (map (λ a. unrolled_proc scope (plain.proc a)) ps) i idle
      two i [] = refl
      two zero (a ∷ as') = refl
      two (suc i) (a ∷ as') = two i as'

  here : (i : ℕ) → comb_at E i ≡ true → Here i
  here i c = elim (here_or_idle i) [ inl h ↦ h | inr e ↦ absurd (not_both (comb_at E i) c (ap (λ (q : d.Proc). is_comb q.kind) e)) ]

  kind_at : (i : ℕ) (h : Here i) → (proc_at E i).kind ≡ h.at.it.kind
  kind_at i h = ap (λ (q : d.Proc). q.kind) h.is

  body_at : (i : ℕ) (h : Here i) → (proc_at E i).body ≡ unrolled scope (plain.stm h.at.it.path h.at.it.body) (still scope)
  body_at i h = ap (λ (q : d.Proc). q.body) h.is

  no_faults : (i : ℕ) (h : Here i) → process_faults x h.at.before h.at.it ≡ []
  no_faults i h = faults_at x standing h.at.before h.at.it h.at.after h.at.split

  built_at : (i : ℕ) (h : Here i) → IsBuilt x.signals h.at.it
  built_at i h = all_at (IsBuilt x.signals) x.processes i h.at fit.processes

  sound_at : (i : ℕ) → IsSoundStm (names_of E) (proc_at E i).body
  sound_at i = (all_index (IsSoundProc (names_of E)) idle E.procs i (record { events = All-nil (λ (e : d.Event). IsNamed (names_of E) e.signal); body = tt }) (flat_sound D fit.sound).procs).body

  bare_at : (i : ℕ) → IsUnrolledStm (proc_at E i).body
  bare_at i = all_index (λ (q : d.Proc). IsUnrolledStm q.body) idle E.procs i tt (all_bare D).procs

  pure_plain : (i : ℕ) (h : Here i) → is_comb h.at.it.kind ≡ true → IsPure (plain.stm h.at.it.path h.at.it.body)
  pure_plain i h k = pure h.at.it.path h.at.it.body (impure_free x h.at.before h.at.it (no_faults i h) k) ((built_at i h).timeless k)

  pure_at : (i : ℕ) → comb_at E i ≡ true → IsPure (proc_at E i).body
  pure_at i c =
      let h = here i c in
      subst IsPure (sym (body_at i h)) (unrolled_pure scope (plain.stm h.at.it.path h.at.it.body) (pure_plain i h (ap is_comb (sym (kind_at i h)) ∙ c)) (still scope))

  nets : (i : ℕ) → comb_at E i ≡ true → IsNetStm (is_memory E.rows) (proc_at E i).body
  nets i c = pure_net (names_of E) (is_memory E.rows) (λ j h. one_word x.signals j (names_of E) refl h) (proc_at E i).body (pure_at i c) (bare_at i) (sound_at i)

  -- ---- who writes what

  hits : (i j : ℕ) (h : Here i) → stm_writes (λ z. z == j) (proc_at E i).body ≡ true → Hits j (s.sites h.at.it.body)
  hits i j h w =
      true_from_ne_false _ (λ g. not_both _ w (ap (λ a. stm_writes (λ z. z == j) a) (body_at i h) ∙ silent (λ z. z == j) scope h.at.it.path h.at.it.body g (still scope)))

  -- what a combinational process writes is a net, or keeps its value
  two_kinds : (i j : ℕ) → comb_at E i ≡ true → stm_writes (λ z. z == j) (proc_at E i).body ≡ true → (is_net x.signals j ≡ true) ⊎ (kind_is is_store x.signals j ≡ true)
  two_kinds i j c w =
      let h = here i c in
      elim (kinds x.signals j (names_of E) (written_there (names_of E) j (proc_at E i).body (pure_at i c) (bare_at i) (sound_at i) w)) [
        | inl g ↦ absurd (no_clock x h.at.before h.at.it (no_faults i h) j g (hits i j h w))
        | inr y ↦ elim y [
          | inl g ↦ absurd (no_loop x h.at.before h.at.it (no_faults i h) j g (hits i j h w))
          | inr z ↦ z
        ]
      ]

  -- of two that may not write one variable, not both do
  clash : (i j k : ℕ) (h : Here i) (g : Here j) → i < j → excludes h.at.it.kind g.at.it.kind ≡ true → kind_is is_store x.signals k ≡ true →
      Hits k (s.sites h.at.it.body) → Hits k (s.sites g.at.it.body) → ⊥
  clash i j k h g l e store a b =
      let m = earlier x.processes i j h.at g.at l in
      no_rival x g.at.before g.at.it (no_faults j g) k h.at.before h.at.it m.0 m.1 e store a b

  -- only continuous assignments write nets
  assigns_nets : (i k : ℕ) (h : Here i) → is_net x.signals k ≡ true → Hits k (s.sites h.at.it.body) → h.at.it.kind ≡ Assign
  assigns_nets i k h n g =
      is_assign_kind h.at.it.kind (true_from_ne_false _ (λ e. not_both _ (sets_hit (is_net x.signals) k n (s.sites h.at.it.body) g) ((built_at i h).nets e)))

  alone : (i j k : ℕ) → comb_at E i ≡ true → comb_at E j ≡ false → stm_writes (λ z. z == k) (proc_at E i).body ≡ true → stm_writes (λ z. z == k) (proc_at E j).body ≡ false
  alone i j k c n w = false_from_ne_true _ both
    where
      h : Here i
      h = here i c

      kind : is_comb h.at.it.kind ≡ true
      kind = ap is_comb (sym (kind_at i h)) ∙ c

      two : (g : Here j) → Hits k (s.sites g.at.it.body) → ⊥
      two g b = elim (two_kinds i k c w) [
        | inl net ↦ let a = assigns_nets j k g net b in not_both (is_assign g.at.it.kind) (ap is_assign a) (no_assign g.at.it.kind (ap is_comb (sym (kind_at j g)) ∙ n))
        | inr store ↦ elim (same_or_not i j) [
          | inl e ↦ not_both (comb_at E i) c (ap (comb_at E) e ∙ n)
          | inr z ↦ elim z [
            | inl l ↦ clash i j k h g l (excludes_left h.at.it.kind g.at.it.kind kind) store (hits i k h w) b
            | inr l ↦ clash j i k g h l (excludes_right g.at.it.kind h.at.it.kind kind) store b (hits i k h w)
          ]
        ]
      ]

      both : stm_writes (λ z. z == k) (proc_at E j).body ≡ true → ⊥
      both f = elim (here_or_idle j) [
        | inl g ↦ two g (hits j k g f)
        | inr e ↦ not_both _ f (ap (λ (q : d.Proc). stm_writes (λ z. z == k) q.body) e)
      ]

  -- ---- continuous assignments

  record Continues (i : ℕ) (h : Here i) : Type 0 where
    target : d.Target
    parts : driven_parts h.at.it ≡ leaves target
    body : (b : Bit) → touched (names_of E) b (proc_at E i).body ≡ true → bit_set (names_of D) true b target ≡ true
    sure : (b : Bit) → touched (names_of E) b (proc_at E i).body ≡ true → always (names_of E) b (proc_at E i).body ≡ true

  -- constants read in both designs alike
  same_calls : Alike (closed (names_of E)) D.funs (λ f given. 0)
  same_calls =
      let a = alike D can [] (λ f given. 0) (λ f given. 0) D.rows (λ f given. refl) in
      record { results = λ f. sym (a.results f); inputs = λ f. sym (a.inputs f); calls = λ f given. refl }

  set_alone : (path : List ℕ) (t : d.Target) (y : p.Exp) → IsPure (plain.called_first path y (d.Set t (plain.exp y))) → plain.called_first path y (d.Set t (plain.exp y)) ≡ d.Set t (plain.exp y)
  set_alone path t (p.Sys at name given) h = absurd h.0
  set_alone path t (p.Un o LogNot (p.Sys at name given)) h = absurd h.0
  set_alone path t y h = refl

  parts_of : (a : p.Process) (at : Place) (t : p.Target) (y : p.Exp) → a.kind ≡ Assign → a.body ≡ p.Set at t y → driven_parts a ≡ leaves (plain.target t)
  parts_of a at t y e f = ap (λ z. if is_assign z then assigned_parts a.body else []) e ∙ ap assigned_parts f

  continues : (i : ℕ) (h : Here i) → h.at.it.kind ≡ Assign → Continues i h
  continues i h e = go h.at.it.body refl ((built_at i h).continuous e)
    where
      comb : is_comb h.at.it.kind ≡ true
      comb = ap is_comb e

      go : (a : p.Stm) → h.at.it.body ≡ a → IsContinuous a → Continues i h
      go (p.Nop at) f c = absurd c
      go (p.Seq at as') f c = absurd c
      go (p.If at t a b) f c = absurd c
      go (p.Case at y is wild) f c = absurd c
      go (p.For at j start test step a) f c = absurd c
      go (p.Repeat at n a) f c = absurd c
      go (p.Later at t y) f c = absurd c
      go (p.Task at name given) f c = absurd c
      go (p.Set at t y) f c =
          let path = h.at.it.path in
          let first : IsPure (plain.stm path (p.Set at t y)) = subst (λ a. IsPure (plain.stm path a)) f (pure_plain i h comb) in
          let is : plain.stm path (p.Set at t y) ≡ d.Set (plain.target t) (plain.exp y) = set_alone path (plain.target t) y first in
          let alone' : IsPure (d.Set (plain.target t) (plain.exp y)) = subst IsPure is first in
          let n : NoWords (plain.target t) = alone'.0 in
          let body : (proc_at E i).body ≡ d.Set (plain.target t) (put scope.names.rows (still scope).values (plain.exp y)) =
          body_at i h ∙ ap (λ a. unrolled scope (plain.stm path a) (still scope)) f ∙ ap (λ a. unrolled scope a (still scope)) is
          ∙ ap (λ z. d.Set z (put scope.names.rows (still scope).values (plain.exp y))) (target_same scope.names.rows (still scope).values t n c) in
          let sound : IsSoundStm (names_of E) (d.Set (plain.target t) (put scope.names.rows (still scope).values (plain.exp y))) = subst (IsSoundStm (names_of E)) body (sound_at i) in
          record {
            target = plain.target t;
            parts = parts_of h.at.it at t y e f;
            body = λ b g. set_same (names_of E) D.funs same_calls true b t c sound.0 ∙ subst (λ a. touched (names_of E) b a ≡ true) body g;
            sure = λ b g. ap (λ a. always (names_of E) b a) body ∙ sym (set_sure (names_of E) b t n c sound.0) ∙ subst (λ a. touched (names_of E) b a ≡ true) body g;
          }

  placed : (i : ℕ) (b : Bit) → (proc_at E i).kind ≡ Assign → touched (names_of E) b (proc_at E i).body ≡ true → always (names_of E) b (proc_at E i).body ≡ true
  placed i b e t =
      let h = here i (ap is_comb e) in
      (continues i h (sym (kind_at i h) ∙ e)).sure b t

  twice : (i j : ℕ) (b : Bit) → i < j → drives E i b ≡ true → drives E j b ≡ true → ⊥
  twice i j b l f g = elim (two_kinds j b.signal ej.0 wj) [
    | inr store ↦ clash i j b.signal hi hj l (excludes_left hi.at.it.kind hj.at.it.kind kind) store (hits i b.signal hi wi) (hits j b.signal hj wj)
    | inl net ↦ both net (continues i hi (assigns_nets i b.signal hi net (hits i b.signal hi wi))) (continues j hj (assigns_nets j b.signal hj net (hits j b.signal hj wj)))
  ]
    where
      ei : (comb_at E i ≡ true) × (touched (names_of E) b (proc_at E i).body ≡ true)
      ei = and_true (comb_at E i) (touched (names_of E) b (proc_at E i).body) f

      ej : (comb_at E j ≡ true) × (touched (names_of E) b (proc_at E j).body ≡ true)
      ej = and_true (comb_at E j) (touched (names_of E) b (proc_at E j).body) g

      hi : Here i
      hi = here i ei.0

      hj : Here j
      hj = here j ej.0

      wi : stm_writes (λ z. z == b.signal) (proc_at E i).body ≡ true
      wi = touched_writes (names_of E) b (λ z. z == b.signal) (itself b.signal) (proc_at E i).body ei.1

      wj : stm_writes (λ z. z == b.signal) (proc_at E j).body ≡ true
      wj = touched_writes (names_of E) b (λ z. z == b.signal) (itself b.signal) (proc_at E j).body ej.1

      kind : is_comb hi.at.it.kind ≡ true
      kind = ap is_comb (sym (kind_at i hi)) ∙ ei.0

      any : (n : ℕ) (h : Here n) (c : Continues n h) → touched (names_of E) b (proc_at E n).body ≡ true → list_any (bit_set (names_of D) true b) (driven_parts h.at.it) ≡ true
      any n h c t = ap (λ ts. list_any (bit_set (names_of D) true b) ts) c.parts ∙ (leaves_set (names_of D) b c.target ∙ c.body b t)

      both : is_net x.signals b.signal ≡ true → Continues i hi → Continues j hj → ⊥
      both net ci cj =
          let m = earlier x.processes i j hi.at hj.at l in
          let r = some_split (bit_set (names_of D) true b) (driven_parts hj.at.it) (any j hj cj ej.1) in
          let before : list_any (bit_set (names_of D) true b) (flat_map driven_parts hj.at.before) ≡ true =
          subst (λ (bs : List p.Process). list_any (bit_set (names_of D) true b) (flat_map driven_parts bs) ≡ true) (sym m.1) (flat_any (bit_set (names_of D) true b) driven_parts hi.at.before hi.at.it m.0 (any i hi ci ei.1)) in
          let again : some_drives (names_of D) (flat_map driven_parts hj.at.before ++ r.0) b ≡ true =
          list_any-append (bit_set (names_of D) true b) (flat_map driven_parts hj.at.before) r.0 ∙ or_left _ _ before in
          let is : IsAgain x.signals (names_of D) (flat_map driven_parts hj.at.before ++ r.0) r.1 = (b, net, r.4, again) in
          let second : IsSecond x hj.at.before hj.at.it = (r.0, r.1, r.2, r.3, is) in
          let driven : IsDrivenTwice x (Construct hj.at.it.place 14) = (hj.at.before, hj.at.it, hj.at.after, hj.at.split, (second, refl)) in
          acc.uses (Construct hj.at.it.place 14) (inr (inl driven))

  once : (i j : ℕ) (b : Bit) → drives E i b ≡ true → drives E j b ≡ true → i ≡ j
  once i j b f g = elim (same_or_not i j) [
    | inl e ↦ e
    | inr n ↦ elim n [ inl l ↦ absurd (twice i j b l f g) | inr l ↦ absurd (twice j i b l g f) ]
  ]

  -- ---- combinational blocks

  abbrev F : d.Flat
  F = plain.flat (unrolled_placed x)

  assigned : (i : ℕ) (b c : Bit) → (proc_at F i).kind ≡ Comb → touched (names_of F) c (proc_at F i).body ≡ true → is_of (names_of F) b c.signal ≡ true → always (names_of F) b (proc_at F i).body ≡ true
  assigned i b c e t o = elim (found plain.proc idle (unrolled_placed x).processes i) [
    | inl y ↦ at y.0 y.1
    | inr n ↦ let z : Init ≡ Comb = ap (λ (q : d.Proc). q.kind) (sym n) ∙ e in let f : ⊥ = cc in absurd f
  ]
    where
      at : (y : At (unrolled_placed x).processes i) → proc_at F i ≡ plain.proc y.it → always (names_of F) b (proc_at F i).body ≡ true
      at y is = true_from_ne_false _ bad
        where
          body : (proc_at F i).body ≡ plain.stm y.it.path y.it.body
          body = ap (λ (q : d.Proc). q.body) is

          bad : always (names_of F) b (proc_at F i).body ≡ false → ⊥
          bad g =
              let touch : touched (names_of F) c (plain.stm y.it.path y.it.body) ≡ true = subst (λ a. touched (names_of F) c a ≡ true) body t in
              let left : always (names_of F) b (plain.stm y.it.path y.it.body) ≡ false = subst (λ a. always (names_of F) b a ≡ false) body g in
              let partly : IsPartly (names_of F) (plain.stm y.it.path y.it.body) = (b, (c, o, touch), inl (λ w. not_both _ ((assigned_exactly (names_of F) b (plain.stm y.it.path y.it.body)).1 w) left)) in
              let kind : y.it.kind ≡ Comb = sym (ap (λ (q : d.Proc). q.kind) is) ∙ e in
              acc.paths (Construct y.it.place 19) (inl (any_of (λ q. IsProcessFault (names_of F) q (Construct y.it.place 19)) (unrolled_placed x).processes i y (kind, partly, refl)))

  pub checked : IsChecked (plain.flat (unrolled_placed x))
  checked =
      let same : F ≡ E = flat_plain x can in
      let blocks = subst (λ (f : d.Flat). (i : ℕ) (b c : Bit) → (proc_at f i).kind ≡ Comb → touched (names_of f) c (proc_at f i).body ≡ true → is_of (names_of f) b c.signal ≡ true → always (names_of f) b (proc_at f i).body ≡ true) same assigned in
      subst IsChecked (sym same) (record {
        nets = nets;
        quiet = λ i c. pure_quiet (proc_at E i).body (pure_at i c) (bare_at i);
        timeless = λ i c. pure_timeless (proc_at E i).body (pure_at i c) (bare_at i);
        assigned = blocks;
        placed = placed;
        once = once;
        alone = alone;
      })
