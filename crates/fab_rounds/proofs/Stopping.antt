-- Tenants that are stopped, or of which a snapshot is made, where they rest.
use Rattle.std.proofs.Common.{◌≡◌, ℕ, Bool, true, false, List, [], ◌∷◌, ◌++◌, refl, sym, ap, ap₂, ◌∙◌, subst, Option, Some, None}
use Rattle.std.specs.Prelude.{not, ◌&&◌, ◌||◌, slice_get, if◌then◌else◌}
use Rattle.std.specs.Arc.{arc_value}
use Rattle.std.proofs.lemmas.Option.{none-some}
use Rattle.fab_core.specs.vl_design.specs.declared.design.End.{End}
use Rattle.fab_core.specs.vl_design.specs.declared.design.End.TheVariants.{Finished, Stopped}
use Rattle.fab_core.specs.vl_design.specs.Alone as alone
use Rattle.fab_core.specs.vl_design.specs.Alone.{first_tick, FreeSave}
use Rattle.fab_core.specs.cell_form.specs.Data.{BankData}
use Rattle.fab_core.specs.cell_form.specs.Views.{bank_of}
use Rattle.fab_core.specs.sub_nodes.specs.Code.{table_of}
use Rattle.fab_core.specs.sub_nodes.specs.Cycles.{Stage, rises}
use Rattle.fab_core.specs.ten_core.specs.declared.origin.Origin.{Origin}
use Rattle.fab_core.specs.ten_core.specs.Tenants.{origin_of}
use Rattle.fab_core.specs.ten_shell.specs.declared.shell.Shell.{Shell}
use Rattle.fab_core.specs.ten_shell.specs.Leaving.{end_in}
use Rattle.fab_core.specs.ten_shell.specs.Shells.{flat_in, free_in, is_at_boundary, is_left, left_in, Rests, StandsFor}
use Rattle.fab_core.specs.ten_parcel.specs.declared.parcel.Parcel.{Parcel}
use Rattle.fab_core.specs.ten_parcel.specs.declared.parcel.Parcel.TheVariants as parcel
use Rattle.fab_core.specs.ten_parcel.specs.declared.tenant.Tenant.{Tenant}
use Rattle.fab_core.specs.ten_parcel.specs.Parcels.{run_of, ticks_of}
use Rattle.fab_core.specs.fab_model.specs.Points.{ended, rests, run_in, Point}
use Rattle.fab_core.specs.Standing.{IsAtRest, IsPoint, IsPointOf}
use Rattle.fab_core.proofs.Arriving.{parcel_is, parcel_number}
use Rattle.fab_core.proofs.Resting.{rests_from}
use Rattle.fab_core.proofs.Parcels.{free_is, moved_is, origin_is, stopped_is, ticks_is}
use Rattle.fab_core.specs.fab_model.specs.declared.transit.Stay.{Stay}
use Rattle.fab_core.specs.fab_model.specs.declared.transit.Transit.{Transit}
use Rattle.fab_core.specs.fab_model.specs.Deeds.{Deed}
use Rattle.fab_core.specs.fab_model.specs.Ends.{EndsNotBefore}
use Rattle.fab_core.specs.fab_model.specs.Stays.{chains}
use Rattle.fab_core.specs.fab_model.specs.Tokens.{Token}
use Rattle.fab_rounds.specs.Tries.{IsStopped, Saves}
use Rattle.fab_core.specs.ten_shell.proofs.Tests.{none-left as nothing_left}

-- ---- shells

stop_by : (r s : Shell) (b : BankData) (p : Point) → s ≡ record r { stopped = true } → ((b : BankData) (c : ℕ) (i : Stage) → StandsFor r b c i → StandsFor s b c i) → IsPoint r b p → IsPoint s b (record p { stopped = true })
stop_by r s b p is stands h = subst (λ (x : Shell). IsPoint x b (record p { stopped = true })) (sym is) (record {
  number = h.number;
  origin = h.origin;
  stands = subst (λ (x : Shell). StandsFor x b p.acts p.stage) is (stands b p.acts p.stage h.stands);
  left = h.left;
  free = h.free;
  moved = h.moved;
  stopped = refl;
})

pub stop_point : (q : Parcel) (t : Tenant) (s : Shell) (p : Point) → q ≡ parcel.Rests t → s ≡ record (t.shell) { stopped = true } → ((b : BankData) (c : ℕ) (i : Stage) → StandsFor t.shell b c i → StandsFor s b c i) → IsPointOf q p
    → IsPointOf (parcel.Rests (record t { shell = s })) (record p { stopped = true })
stop_point q t s p e is stands h =
    let a : IsAtRest t p = subst (λ (x : Parcel). IsPointOf x p) e h in
    record { point = stop_by t.shell s (bank_of t.bank) p is stands a.point; rests = a.rests }

-- where a run hasn't ended, it isn't finished
unfinished : (stopped f : Bool) (rest : Option End) → (if stopped then Some Stopped else if f then Some Finished else rest) ≡ None → f ≡ false
unfinished true f rest e = absurd (none-some Stopped (sym e))
unfinished false true rest e = absurd (none-some Finished (sym e))
unfinished false false rest e = refl

rising : (f u l : Bool) → (f || (u && not l)) ≡ true → f ≡ false → (not f && u) ≡ true
rising true u l h e = let z : ⊥ = cc in absurd z
rising false true l h e = refl
rising false false l h e = let z : ⊥ = cc in absurd z

lacking : (f u l : Bool) → (f || (u && not l)) ≡ true → f ≡ false → l ≡ false
lacking true u l h e = let z : ⊥ = cc in absurd z
lacking false true true h e = let z : ⊥ = cc in absurd z
lacking false true false h e = refl
lacking false false l h e = let z : ⊥ = cc in absurd z

module _ (t : Tenant) (p : Point) (a : IsAtRest t p) (n : ended p ≡ None) where
  alive : p.stage.state.finished ≡ false
  alive = unfinished p.stopped p.stage.state.finished _ n

  up : is_at_boundary (flat_in t.shell) p.stage ≡ true
  up = subst (λ (o : Origin). is_at_boundary (origin_of o).flat p.stage ≡ true) (sym a.point.origin)
      (rising p.stage.state.finished (rises (slice_get (table_of (run_in p).flat).nodes p.stage.node)) (is_left p.left) a.rests alive)

  none : p.left ≡ []
  none = nothing_left p.left (lacking p.stage.state.finished (rises (slice_get (table_of (run_in p).flat).nodes p.stage.node)) (is_left p.left) a.rests alive)

  left_none : left_in t.shell ≡ []
  left_none = a.point.left up ∙ none

  -- its shell has no reason to end either
  goes_on : end_in (origin_of (arc_value t.shell.engine.origin)).plan t.shell.stopped p.stage.state ≡ None
  goes_on =
      subst (λ (o : Origin). end_in (origin_of o).plan t.shell.stopped p.stage.state ≡ None) (sym a.point.origin)
      (subst (λ (s : Bool). end_in (run_in p).plan s p.stage.state ≡ None) (sym a.point.stopped) n)

  pub may_stop : (b : BankData) × (c : ℕ) × (i : Stage) × StandsFor t.shell b c i × Rests t.shell i × (end_in (origin_of (arc_value t.shell.engine.origin)).plan t.shell.stopped i.state ≡ None)
  may_stop = (bank_of t.bank, p.acts, p.stage, a.point.stands, rests_from t.shell (bank_of t.bank) p a.point a.rests, goes_on)

  pub may_save : (c : ℕ) × (i : Stage) × StandsFor t.shell (bank_of t.bank) c i × (is_at_boundary (flat_in t.shell) i ≡ true) × (left_in t.shell ≡ [])
  may_save = (p.acts, p.stage, a.point.stands, up, left_none)

  module _ (s : Shell) (name : List ℕ) (same : (s.number ≡ t.shell.number) × (s.engine ≡ t.shell.engine) × (s.moved ≡ t.shell.moved) × (s.stopped ≡ t.shell.stopped)) (free : free_in s ≡ free_in t.shell ++ record { name = name; tick = t.shell.engine.ticks } ∷ [])
      (stands : (c : ℕ) (i : Stage) → StandsFor t.shell (bank_of t.bank) c i → left_in t.shell ≡ [] → is_at_boundary (flat_in t.shell) i ≡ true → StandsFor s (bank_of t.bank) c i × (left_in s ≡ [])) where
    pub saved_point : IsPointOf (parcel.Rests (record t { shell = s })) (record p { free = p.free ++ record { name = name; tick = p.stage.state.ticks } ∷ [] })
    saved_point =
        let h = stands p.acts p.stage a.point.stands left_none up in
        record {
          point = record {
            number = same.0 ∙ a.point.number;
            origin = ap (λ e. arc_value e.origin) same.1 ∙ a.point.origin;
            stands = h.0;
            left = λ b. h.1 ∙ sym none;
            free = free ∙ ap₂ (λ (l : List FreeSave) (k : ℕ). l ++ record { name = name; tick = k } ∷ []) a.point.free (ticks_is (parcel.Rests t) p a);
            moved = same.2 ∙ a.point.moved;
            stopped = same.3 ∙ a.point.stopped;
          };
          rests = a.rests;
        }

-- ---- tenants on their way

token_by : (n n' k k' : ℕ) (d d' : Deed) → n ≡ n' → k ≡ k' → d ≡ d' → ◌≡◌ {A = Token} (record { tenant = n; tick = k; deed = d }) (record { tenant = n'; tick = k'; deed = d' })
token_by n n' k k' d d' a b c = ap (λ (x : ℕ). record { tenant = x; tick = k; deed = d }) a ∙ ap (λ (x : ℕ). record { tenant = n'; tick = x; deed = d }) b ∙ ap (λ (x : Deed). record { tenant = n'; tick = k'; deed = x }) c

deed_by : (o o' : Origin) (f f' : List FreeSave) (m m' : Bool) (s s' : List Stay) (r r' : Bool) → o ≡ o' → f ≡ f' → m ≡ m' → s ≡ s' → r ≡ r'
    → ◌≡◌ {A = Deed} (record { origin = o; free = f; moved = m; stays = s; resident = r }) (record { origin = o'; free = f'; moved = m'; stays = s'; resident = r' })
deed_by o o' f f' m m' s s' r r' a b c d e =
    ap (λ (x : Origin). record { origin = x; free = f; moved = m; stays = s; resident = r }) a
    ∙ ap (λ (x : List FreeSave). record { origin = o'; free = x; moved = m; stays = s; resident = r }) b
    ∙ ap (λ (x : Bool). record { origin = o'; free = f'; moved = x; stays = s; resident = r }) c
    ∙ ap (λ (x : List Stay). record { origin = o'; free = f'; moved = m'; stays = x; resident = r }) d
    ∙ ap (λ (x : Bool). record { origin = o'; free = f'; moved = m'; stays = s'; resident = x }) e

pub stopped_is_so : (t t' : Transit) (p : Point) → IsPointOf t.parcel p → IsPointOf t'.parcel (record p { stopped = true }) → t'.stays.items ≡ t.stays.items → t'.resident ≡ t.resident → IsStopped t t'
stopped_is_so t t' p a b stays resident =
    let q : Point = record p { stopped = true } in
    record {
      token = token_by _ _ _ _ _ _
          (parcel_number t'.parcel q b ∙ sym (parcel_number t.parcel p a))
          (ticks_is t'.parcel q b ∙ sym (ticks_is t.parcel p a))
          (deed_by _ _ _ _ _ _ _ _ _ _ (origin_is t'.parcel q b ∙ sym (origin_is t.parcel p a)) (free_is t'.parcel q b ∙ sym (free_is t.parcel p a)) (moved_is t'.parcel q b ∙ sym (moved_is t.parcel p a)) stays resident);
      stopped = stopped_is t'.parcel q b;
      parcel = parcel_is t'.parcel q b;
    }

pub saved_is_so : (t t' : Transit) (p : Point) (name : List ℕ) → IsPointOf t.parcel p → ended p ≡ None → IsPointOf t'.parcel (record p { free = p.free ++ record { name = name; tick = p.stage.state.ticks } ∷ [] }) → t'.stays.items ≡ t.stays.items → t'.resident ≡ t.resident → Saves name t t'
saved_is_so t t' p name a n b stays resident =
    let q : Point = record p { free = p.free ++ record { name = name; tick = p.stage.state.ticks } ∷ [] } in
    record {
      token = token_by _ _ _ _ _ _
          (parcel_number t'.parcel q b ∙ sym (parcel_number t.parcel p a))
          (ticks_is t'.parcel q b ∙ sym (ticks_is t.parcel p a))
          (deed_by _ _ _ _ _ _ _ _ _ _ (origin_is t'.parcel q b ∙ sym (origin_is t.parcel p a))
          (free_is t'.parcel q b ∙ ap₂ (λ (l : List FreeSave) (k : ℕ). l ++ record { name = name; tick = k } ∷ []) (sym (free_is t.parcel p a)) (sym (ticks_is t.parcel p a)))
          (moved_is t'.parcel q b ∙ sym (moved_is t.parcel p a)) stays resident);
      point = (q, b, n);
    }

-- ---- the same run, at the same tick

pub run_at : (q q' : Parcel) (p p' : Point) → IsPointOf q p → IsPointOf q' p' → p'.origin ≡ p.origin → run_of q' ≡ run_of q
run_at q q' p p' a b o = ap origin_of (origin_is q' p' b ∙ o ∙ sym (origin_is q p a))

pub ticks_at : (q q' : Parcel) (p p' : Point) → IsPointOf q p → IsPointOf q' p' → p'.stage ≡ p.stage → ticks_of q' ≡ ticks_of q
ticks_at q q' p p' a b s = ticks_is q' p' b ∙ ap (λ (x : Stage). x.state.ticks) s ∙ sym (ticks_is q p a)

pub chained_still : (t : Transit) (q : Parcel) → run_of q ≡ run_of t.parcel → ticks_of q ≡ ticks_of t.parcel → chains (first_tick (run_of q).resume) t.stays.items (ticks_of q) ≡ true
chained_still t q r k = subst (λ (o : alone.Origin). chains (first_tick o.resume) t.stays.items (ticks_of q) ≡ true) (sym r) (subst (λ (n : ℕ). chains (first_tick (run_of t.parcel).resume) t.stays.items n ≡ true) (sym k) t.chained)

pub before_still : (t : Transit) (q : Parcel) → run_of q ≡ run_of t.parcel → ticks_of q ≡ ticks_of t.parcel → EndsNotBefore (run_of q) (ticks_of q)
before_still t q r k = subst (λ (o : alone.Origin). EndsNotBefore o (ticks_of q)) (sym r) (subst (EndsNotBefore (run_of t.parcel)) (sym k) t.before_end)
