-- Tenants that have ended can be told of.
use Rattle.std.proofs.Common.{◌≡◌, ℕ, suc, ◌<◌, ◌≤◌, true, List, [], ◌∷◌, length, filter, get_or, map, refl, sym, ap, ◌∙◌, subst, arith, Option, Some, None}
use Rattle.std.specs.Prelude.{not, ⊤}
use Rattle.std.specs.List.{AllByRecursion}
use Rattle.std.proofs.lemmas.List.{length-map}
use Rattle.host_text.specs.vl_design.specs.declared.design.End.{End}
use Rattle.host_text.specs.vl_design.specs.declared.design.End.TheVariants.{Stopped}
use Rattle.host_text.specs.vl_design.specs.Alone as alone
use Rattle.host_text.specs.vl_design.specs.Alone.{FreeSave, Keeps}
use Rattle.host_text.specs.vl_design.specs.Queue.{Queue}
use Rattle.host_text.specs.vl_design.specs.Snapshots.{Saved}
use Rattle.elab_laws.specs.Names.{is_named, NamesErrands, NamesFreeSaves, NamesSaves}
use Rattle.host_judge.specs.ten_core.specs.declared.origin.Origin.{Origin}
use Rattle.host_judge.specs.ten_core.specs.Tenants.{origin_of}
use Rattle.fab_rounds.specs.ten_parcel.specs.Parcels.{free_of, origin_in, ticks_of, IsParcel}
use Rattle.elab_laws.specs.ten_plan.specs.Written.{HasRows}
use Rattle.host_text.specs.declared.script.FabricLine.{FabricLine}
use Rattle.host_text.specs.declared.script.TenantLine.{TenantLine}
use Rattle.host_report.specs.fab_model.specs.declared.transit.Transit.{Transit}
use Rattle.fab_rounds.specs.fab_bay.specs.declared.noted.Label.{Label}
use Rattle.fab_rounds.specs.fab_orders.specs.declared.outcomes.Answer.{Answer}
use Rattle.fab_rounds.specs.fab_orders.specs.declared.outcomes.Order.{Order}
use Rattle.fab_rounds.specs.fab_orders.specs.declared.outcomes.Outcome.{Outcome}
use Rattle.fab_rounds.specs.fab_orders.specs.declared.outcomes.Start.{Start}
use Rattle.fab_rounds.specs.fab_orders.specs.Orders.{stop_of}
use Rattle.fab_rounds.specs.fab_orders.specs.Outcomes.{HasStopped, IsEnded, IsOutcome}
use Rattle.host_form.specs.Origins.{Tenant}
use Rattle.host_files.specs.declared.loaded.Loaded.{Loaded}
use Rattle.host_judge.specs.declared.verdict.Ready.{Ready}
use Rattle.host_form.specs.declared.refusal.Refusal.{Refusal}
use Rattle.host_judge.specs.Judged.{AreJudged, AreTenants, IsReady}
use Rattle.host_outcomes.specs.Begun.{AreBegun, IsBegun}
use Rattle.host_report.specs.Ends.{is_refused, EndsSo}
use Rattle.host_report.specs.Telling.{AreTellable, IsTellable}
use Rattle.host_run.proofs.Keeping.{keeps-same}
use Rattle.host_run.proofs.Named.{all_named, other, saves_named, AreNamed}

-- ---- as many

pub lines_same : (lines : List TenantLine) (loaded : List Loaded) (tenants : List Tenant) → AreTenants lines loaded tenants → map (λ t. t.line) tenants ≡ lines
lines_same [] [] [] a = refl
lines_same [] [] (t ∷ ts) a = absurd a
lines_same [] (l ∷ ls) ts a = absurd a
lines_same (x ∷ lines) [] ts a = absurd a
lines_same (x ∷ lines) (l ∷ ls) [] a = absurd a
lines_same (x ∷ lines) (l ∷ ls) (t ∷ ts) a =
    ap (λ (y : TenantLine). y ∷ map (λ (u : Tenant). u.line) ts) a.0.is ∙ ap (λ (ys : List TenantLine). x ∷ ys) (lines_same lines ls ts a.1)

pub tenants_count : (lines : List TenantLine) (loaded : List Loaded) (tenants : List Tenant) → AreTenants lines loaded tenants → length tenants ≡ length lines
tenants_count lines loaded tenants a = sym (length-map tenants (λ (t : Tenant). t.line)) ∙ ap length (lines_same lines loaded tenants a)

module _ (fabrics : List FabricLine) where
  pub refusals_count : (tenants : List Tenant) (refusals : List (Option Refusal)) (readies : List Ready) → AreJudged fabrics tenants refusals readies → length refusals ≡ length tenants
  refusals_count [] [] rs j = refl
  refusals_count [] (x ∷ refusals) rs j = absurd j
  refusals_count (t ∷ ts) [] rs j = absurd j
  refusals_count (t ∷ ts) (Some r ∷ refusals) rs j = ap suc (refusals_count ts refusals rs j.1)
  refusals_count (t ∷ ts) (None ∷ refusals) [] j = absurd j
  refusals_count (t ∷ ts) (None ∷ refusals) (r ∷ rs) j = ap suc (refusals_count ts refusals rs j.1)

  pub few : (tenants : List Tenant) (refusals : List (Option Refusal)) (readies : List Ready) → AreJudged fabrics tenants refusals readies → length readies ≤ length tenants
  few [] [] [] j = omega arith
  few [] [] (r ∷ rs) j = absurd j
  few [] (x ∷ refusals) rs j = absurd j
  few (t ∷ ts) [] rs j = absurd j
  few (t ∷ ts) (Some r ∷ refusals) rs j = let l = few ts refusals rs j.1 in omega (arith, l)
  few (t ∷ ts) (None ∷ refusals) [] j = absurd j
  few (t ∷ ts) (None ∷ refusals) (r ∷ rs) j = let l = few ts refusals rs j.1 in omega (arith, l)

-- ---- those that run, as many as aren't refused

module _ (fabrics : List FabricLine) where
  pub readies_count : (tenants : List Tenant) (refusals : List (Option Refusal)) (readies : List Ready) → AreJudged fabrics tenants refusals readies
      → length readies ≡ length (filter (λ r. not r) (map is_refused refusals))
  readies_count [] [] [] j = refl
  readies_count [] [] (r ∷ rs) j = absurd j
  readies_count [] (x ∷ refusals) rs j = absurd j
  readies_count (t ∷ ts) [] rs j = absurd j
  readies_count (t ∷ ts) (Some r ∷ refusals) rs j = readies_count ts refusals rs j.1
  readies_count (t ∷ ts) (None ∷ refusals) [] j = absurd j
  readies_count (t ∷ ts) (None ∷ refusals) (r ∷ rs) j = ap suc (readies_count ts refusals rs j.1)

pub starts_count : (readies : List Ready) (starts : List Start) → AreBegun readies starts → length starts ≡ length readies
starts_count [] [] b = refl
starts_count [] (s ∷ ss) b = absurd b
starts_count (r ∷ rs) [] b = absurd b
starts_count (r ∷ rs) (s ∷ ss) b = ap suc (starts_count rs ss b.1)

-- ---- ends, one after another

abbrev AreEnded : List Answer → List Start → List Transit → Type 0
AreEnded answers [] [] = ⊤
AreEnded answers (s ∷ ss) (e ∷ es) = ((n : ℕ) × IsEnded s n answers e) × AreEnded answers ss es
AreEnded answers _ _ = ⊥

ended_from : (answers : List Answer) (starts : List Start) (ended : List Transit) → length ended ≡ length starts
    → ((t : ℕ) (d : Start) (e : Transit) → t < length starts → (n : ℕ) × IsEnded (get_or starts t d) n answers (get_or ended t e)) → AreEnded answers starts ended
ended_from answers [] [] n f = tt
ended_from answers [] (e ∷ es) n f = absurd (omega (arith, n))
ended_from answers (s ∷ ss) [] n f = absurd (omega (arith, n))
ended_from answers (s ∷ ss) (e ∷ es) n f = (f 0 s e (omega arith), ended_from answers ss es (omega (arith, n)) (λ t d x lt. f (suc t) d x (omega (arith, lt))))

-- ---- what is told of a tenant

-- each snapshot that a run of such a design keeps has such a name, where those have that are asked for otherwise
abbrev pub AllAreNamed : Type 0
AllAreNamed = (o : alone.Origin) (free : List FreeSave) (k : ℕ) (saved : List Saved) → NamesSaves o.flat → NamesErrands o.plan → NamesFreeSaves free
    → Keeps o free k saved → AllByRecursion (λ s. is_named s.name ≡ true) saved

-- how its run has ended
abbrev HasEnd : Transit → Type 0
HasEnd e = (end : End) × (last : Queue) × EndsSo e.parcel end last

has_end : (stop : Option ℕ) (e : Transit) → HasStopped stop e.parcel → HasEnd e
has_end stop e (HasStopped.alone none y m end last ends) = (end, last, EndsSo.alone y ends)
has_end stop e (HasStopped.ordered is y goes) = (Stopped, goes.last, EndsSo.stopped y refl goes.at goes.none)

module _ (named : AllAreNamed) (fabrics : List FabricLine) (answers : List Answer) (orders : AreNamed (map (λ a. a.order.value) answers)) where
  is_tellable : (t : Tenant) (r : Ready) (s : Start) (n : ℕ) (e : Transit) → IsReady fabrics t r → IsBegun r s → IsEnded s n answers e → IsTellable e
  is_tellable t r s n e y b x =
      let from : origin_in e.parcel ≡ r.origin = x.origin ∙ b.origin in
      let end = has_end (stop_of n answers) e x.why in
      let free = all_named (free_of e.parcel) (x.free other ∙ saves_named n answers orders) in
      record {
        parcel = x.parcel;
        end = end.0;
        last = end.1;
        ends = end.2;
        written = subst (λ (o : Origin). HasRows (origin_of o).flat.rows) (sym from) y.written;
        named = λ saved keeps. named y.origin (free_of e.parcel) (ticks_of e.parcel) saved y.saves y.errands (record { names = free })
            (keeps-same y.origin (origin_of r.origin) y.runs.run y.runs.plan y.runs.resume y.rows
            (subst (λ (o : Origin). Keeps (origin_of o) (free_of e.parcel) (ticks_of e.parcel) saved) from keeps));
      }

  tellable_by : (tenants : List Tenant) (refusals : List (Option Refusal)) (readies : List Ready) (starts : List Start) (ended : List Transit)
      → AreJudged fabrics tenants refusals readies → AreBegun readies starts → AreEnded answers starts ended → AreTellable refusals ended
  tellable_by [] [] [] [] [] j b e = tt
  tellable_by [] [] [] [] (x ∷ es) j b e = absurd e
  tellable_by [] [] [] (s ∷ ss) es j b e = absurd b
  tellable_by [] [] (r ∷ rs) ss es j b e = absurd j
  tellable_by [] (x ∷ refusals) rs ss es j b e = absurd j
  tellable_by (t ∷ ts) [] rs ss es j b e = absurd j
  tellable_by (t ∷ ts) (Some r ∷ refusals) rs ss es j b e = tellable_by ts refusals rs ss es j.1 b e
  tellable_by (t ∷ ts) (None ∷ refusals) [] ss es j b e = absurd j
  tellable_by (t ∷ ts) (None ∷ refusals) (r ∷ rs) [] es j b e = absurd b
  tellable_by (t ∷ ts) (None ∷ refusals) (r ∷ rs) (s ∷ ss) [] j b e = absurd e
  tellable_by (t ∷ ts) (None ∷ refusals) (r ∷ rs) (s ∷ ss) (x ∷ es) j b e =
      (is_tellable t r s e.0.0 x j.0 b.0 e.0.1, tellable_by ts refusals rs ss es j.1 b.1 e.1)

pub tellable : (named : AllAreNamed) (fabrics : List FabricLine) (tenants : List Tenant) (refusals : List (Option Refusal)) (readies : List Ready) (labels : List Label) (starts : List Start) (orders : List Order) (out : Outcome)
    → AreJudged fabrics tenants refusals readies → AreBegun readies starts → IsOutcome labels starts orders out → AreNamed orders → AreTellable refusals out.ended.items
tellable named fabrics tenants refusals readies labels starts orders out j b o are =
    tellable_by named fabrics out.answers.items (subst AreNamed (sym o.asked) are) tenants refusals readies starts out.ended.items j b
    (ended_from out.answers.items starts out.ended.items o.all_ended (λ t d e lt. (t, o.ended t d e lt)))

-- ---- what follows of tenants that can be told of

pub running : (refusals : List (Option Refusal)) (ended : List Transit) → AreTellable refusals ended → length ended ≡ length (filter (λ r. not r) (map is_refused refusals))
running [] [] a = refl
running [] (e ∷ es) a = absurd a
running (Some r ∷ rs) es a = running rs es a
running (None ∷ rs) [] a = absurd a
running (None ∷ rs) (e ∷ es) a = ap suc (running rs es a.1)

pub parcels : (refusals : List (Option Refusal)) (ended : List Transit) → AreTellable refusals ended → AllByRecursion (λ e. IsParcel e.parcel) ended
parcels [] [] a = tt
parcels [] (e ∷ es) a = absurd a
parcels (Some r ∷ rs) es a = parcels rs es a
parcels (None ∷ rs) [] a = absurd a
parcels (None ∷ rs) (e ∷ es) a = (a.0.parcel, parcels rs es a.1)
