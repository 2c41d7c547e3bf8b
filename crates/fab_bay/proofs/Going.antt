-- Ways one after another.
use Rattle.std.proofs.Common.{◌≡◌, ℕ, ◌+◌, Bool, true, false, eq-eqb, List, [], ◌∷◌, ◌++◌, map, refl, sym, ap, ◌∙◌, subst, append_assoc, arith}
use Rattle.std.proofs.lemmas.List.{append-nil, append_cancel_left}
use Rattle.fab_core.specs.fab_lock.specs.declared.entry.Entry.{Entry}
use Rattle.fab_core.specs.fab_lock.specs.declared.entry.Kind.{Kind}
use Rattle.fab_core.specs.fab_lock.specs.declared.entry.Kind.TheVariants as kind
use Rattle.fab_core.specs.fab_model.specs.Points.{Point}
use Rattle.fab_core.specs.fab_model.specs.Fabrics.{Fabric}
use Rattle.fab_core.specs.fab_model.specs.Worlds.{happens, run, Event, World, Arrive, Cycle, Serve, Hold, Rebuild, Take, Leave}
use Rattle.fab_core.specs.declared.cores.FabCore.{FabCore}
use Rattle.fab_core.specs.Standing.{IsFabric}
use Rattle.fab_core.specs.fab_model.specs.declared.note.Note.{Note}
use Rattle.fab_core.specs.fab_model.specs.declared.transit.Transit.{Transit}
use Rattle.fab_core.specs.fab_model.specs.Deeds.{Deed, deed_in}
use Rattle.fab_core.specs.fab_model.specs.Histories.{after, in_line, replay, AreLinesByFirst, IsLegal, Seat}
use Rattle.fab_core.specs.fab_model.specs.Tokens as tokens_of
use Rattle.fab_core.specs.fab_model.specs.Tokens.{outs, puts, put_at, AllBear, Token}
use Rattle.std.specs.Prelude.{◌==◌, if◌then◌else◌, not, Option, None, Some}
use Rattle.fab_bay.specs.declared.berth.Berth.{Berth}
use Rattle.fab_bay.specs.declared.noted.Label.{Label}
use Rattle.fab_bay.specs.declared.noted.NotedCore.{NotedCore}
use Rattle.fab_bay.specs.Berths.{seats, AreBerths, AreWaiters}
use Rattle.fab_bay.specs.Marks.{all_called_for, called_for, is_run, runs_next, stops_next, AreClosed, AreWhole, IsRunOf, mark_at, marks, Mark}
use Rattle.fab_bay.specs.Standing.{IsNoted, IsSame}
use Rattle.fab_bay.specs.Ways.{cycles_in, tokens, AreBelow, AreInOrder, AreOut, Goes, IsEmpty, Path}
use Rattle.vl_design.specs.vl_base.proofs.Booleans.{not_true_false as no-run}
pub use Rattle.fab_core.specs.fab_model.proofs.Shared.{outs-append, puts-append}

-- ---- notes

pub bear-append : (k : ℕ) (xs ys : List Note) → AllBear k xs → AllBear k ys → AllBear k (xs ++ ys)
bear-append k [] ys a b = b
bear-append k (x ∷ xs) ys a b = (a.0, bear-append k xs ys a.1 b)

pub below-append : (n : ℕ) (xs ys : List Note) → AreBelow n xs → AreBelow n ys → AreBelow n (xs ++ ys)
below-append n [] ys a b = b
below-append n (x ∷ xs) ys a b = (a.0, below-append n xs ys a.1 b)

pub told-append : (xs ys : List Note) → map (λ (n : Note). n.entry) (xs ++ ys) ≡ map (λ (n : Note). n.entry) xs ++ map (λ (n : Note). n.entry) ys
told-append [] ys = refl
told-append (x ∷ xs) ys = ap (λ (l : List Entry). x.entry ∷ l) (told-append xs ys)

pub marks-append : (xs ys : List Note) → marks (xs ++ ys) ≡ marks xs ++ marks ys
marks-append [] ys = refl
marks-append (x ∷ xs) ys = ap (λ (l : List Mark). mark_at x.entry.kind x.entry ++ l) (marks-append xs ys) ∙ sym (append_assoc (mark_at x.entry.kind x.entry) (marks xs) (marks ys))

stops-append : (t : ℕ) (xs ys : List Note) → stops_next t xs ≡ true → stops_next t (xs ++ ys) ≡ true
stops-append t [] ys h = let z : ⊥ = cc in absurd z
stops-append t (x ∷ xs) ys h = by (x.entry.tenant == t) h (stops-append t xs ys)
  where
    by : (v : Bool) → (if v then not (is_run x.entry.kind) else stops_next t xs) ≡ true → (stops_next t xs ≡ true → stops_next t (xs ++ ys) ≡ true)
        → (if v then not (is_run x.entry.kind) else stops_next t (xs ++ ys)) ≡ true
    by true e r = e
    by false e r = r e

pub closed-append : (xs ys : List Note) → AreClosed xs → AreClosed ys → AreClosed (xs ++ ys)
closed-append [] ys a b = b
closed-append (x ∷ xs) ys a b = (λ r. stops-append x.entry.tenant xs ys (a.0 r), closed-append xs ys a.1 b)

next-append : (t : ℕ) (xs ys : List Note) → stops_next t xs ≡ true → runs_next t (xs ++ ys) ≡ false
next-append t [] ys h = let z : ⊥ = cc in absurd z
next-append t (x ∷ xs) ys h = by (x.entry.tenant == t) h (next-append t xs ys)
  where
    by : (v : Bool) → (if v then not (is_run x.entry.kind) else stops_next t xs) ≡ true → (stops_next t xs ≡ true → runs_next t (xs ++ ys) ≡ false)
        → (if v then is_run x.entry.kind else runs_next t (xs ++ ys)) ≡ false
    by true e r = no-run (is_run x.entry.kind) e
    by false e r = r e

pub whole-append : (xs ys : List Note) → AreClosed xs → AreWhole ys → AreWhole (xs ++ ys)
whole-append [] ys a b = b
whole-append (x ∷ xs) ys a b = (λ r. next-append x.entry.tenant xs ys (a.0 r), whole-append xs ys a.1 b)

-- a note of another kind behind a run of the same tenant
pub closed-run : (t : ℕ) (rs : List Note) (n : Note) → IsRunOf t rs → n.entry.tenant ≡ t → is_run n.entry.kind ≡ false → AreClosed (rs ++ n ∷ [])
closed-run t [] n h e k = (λ r. let z : ⊥ = cc in absurd z, tt)
closed-run t (m ∷ []) n h e k =
    (λ r. ap (λ (v : Bool). if v then not (is_run n.entry.kind) else false) (eq-eqb n.entry.tenant m.entry.tenant (e ∙ sym h.1)) ∙ ap not k, (λ r. let z : ⊥ = cc in absurd z, tt))
closed-run t (m ∷ l ∷ rs) n h e k = absurd h

pub closed-one : (n : Note) → is_run n.entry.kind ≡ false → AreClosed (n ∷ [])
closed-one n k = (λ r. let z : ⊥ = cc in absurd z, tt)

pub closed-by : (x y z a b added : List Note) → y ≡ x ++ a → z ≡ y ++ b → z ≡ x ++ added → AreClosed (a ++ b) → AreClosed added
closed-by x y z a b added e g h c =
    subst (λ (ns : List Note). AreClosed ns) (append_cancel_left x (a ++ b) added (sym (append_assoc x a b) ∙ (ap (λ (l : List Note). l ++ b) (sym e) ∙ (sym g ∙ h)))) c

pub closed-none : (x y added : List Note) → y ≡ x → y ≡ x ++ added → AreClosed added
closed-none x y added e h = subst (λ (ns : List Note). AreClosed ns) (append_cancel_left x [] added (append-nil x ∙ (sym e ∙ h))) tt

pub replay-append : (ss : List Seat) (xs ys : List Note) → replay ss (xs ++ ys) ≡ replay (replay ss xs) ys
replay-append ss [] ys = refl
replay-append ss (x ∷ xs) ys = replay-append (after x.entry.kind ss x) xs ys

-- where nobody is and nobody is put in line, nobody comes to be
nobody-comes : (e : Entry) (o : Option Deed) → tokens_of.told e o ≡ [] → in_line e o ≡ []
nobody-comes e None h = refl
nobody-comes e (Some d) h = let z : ⊥ = cc in absurd z

pub front-empty : (xs ys : List Token) → xs ++ ys ≡ [] → (xs ≡ []) × (ys ≡ [])
front-empty [] ys h = (refl, h)
front-empty (x ∷ xs) ys h = let z : ⊥ = cc in absurd z

none-after : (k : Kind) (n : Note) → put_at k n ≡ [] → after k [] n ≡ []
none-after kind.Line n h = nobody-comes n.entry (deed_in n) h
none-after kind.Came n h = refl
none-after kind.Ran n h = refl
none-after kind.Saved n h = refl
none-after kind.Left n h = refl

pub still-nobody : (ns : List Note) → puts ns ≡ [] → replay [] ns ≡ []
still-nobody [] h = refl
still-nobody (n ∷ ns) h =
    let both = front-empty (put_at n.entry.kind n) (puts ns) h in
    ap (λ (ss : List Seat). replay ss ns) (none-after n.entry.kind n both.0) ∙ still-nobody ns both.1

-- ---- events

run-append : (es fs : List Event) (w : World) → run (es ++ fs) w ≡ run fs (run es w)
run-append [] fs w = refl
run-append (e ∷ es) fs w = run-append es fs (happens w e)

pub cycles-append : (es fs : List Event) → cycles_in (es ++ fs) ≡ cycles_in es + cycles_in fs
cycles-append [] fs = omega arith
cycles-append (Cycle ∷ es) fs = let i = cycles-append es fs in omega (arith, i)
cycles-append (Arrive t ∷ es) fs = cycles-append es fs
cycles-append (Serve t ∷ es) fs = cycles-append es fs
cycles-append (Hold ∷ es) fs = cycles-append es fs
cycles-append (Rebuild ∷ es) fs = cycles-append es fs
cycles-append (Take t ∷ es) fs = cycles-append es fs
cycles-append (Leave t ∷ es) fs = cycles-append es fs

pub order-append : (es fs : List Event) (w : World) → AreInOrder es w → AreInOrder fs (run es w) → AreInOrder (es ++ fs) w
order-append [] fs w a b = b
order-append (e ∷ es) fs w a b = (a.0, order-append es fs (happens w e) a.1 b)

pub called-append : (es fs : List Event) (w : World) → all_called_for (es ++ fs) w ≡ all_called_for es w ++ all_called_for fs (run es w)
called-append [] fs w = refl
called-append (e ∷ es) fs w =
    let v = happens w e in
    ap (λ (l : List Mark). called_for e w ++ l) (called-append es fs v) ∙ sym (append_assoc (called_for e w) (all_called_for es v) (all_called_for fs (run es v)))

-- ---- ways

-- what stands for a fabric is told by all but what is told, and by no room
pub noted-along : (x y : NotedCore) (f : Fabric) → y.label ≡ x.label → y.core ≡ x.core → y.berths ≡ x.berths → y.waiting ≡ x.waiting → y.notes.items ≡ x.notes.items → IsNoted x f → IsNoted y f
noted-along x y f label core berths waiting notes n = record {
  core = subst (λ (c : FabCore). IsFabric c f) (sym core) n.core;
  capacity = n.capacity ∙ ap (λ (l : Label). l.capacity) (sym label);
  residents =
      subst (λ (l : Label). AreBerths l.tenants y.berths.items f.residents) (sym label)
      (subst (λ (bs : List Berth). AreBerths x.label.tenants bs f.residents) (sym (ap (λ v. v.items) berths)) n.residents);
  line =
      subst (λ (l : Label). AreWaiters l.tenants y.waiting.items f.line) (sym label)
      (subst (λ (bs : List Berth). AreWaiters x.label.tenants bs f.line) (sym (ap (λ v. v.items) waiting)) n.line);
  legal =
      subst (λ (l : Label). IsLegal l.fabric l.capacity y.notes.items) (sym label)
      (subst (λ (ns : List Note). IsLegal x.label.fabric x.label.capacity ns) (sym notes) n.legal);
  replayed =
      ap (replay []) notes ∙ (n.replayed ∙ (ap (λ v. seats v.items x.waiting.items) (sym berths) ∙ ap (λ v. seats y.berths.items v.items) (sym waiting)));
  lines = λ any. subst (λ (ns : List Note). AreLinesByFirst ns) (sym notes) (n.lines (ap (λ (l : Label). l.any_puts) (sym label) ∙ any));
}

abbrev start : Fabric → List Point → World
start f ps = record { fabric = f; transit = ps }

module _ (k : ℕ) where
  -- nothing is done
  pub stays : {b : Bool} (x y : NotedCore) (said : List Entry) (out : List Transit) → y.label ≡ x.label → y.core ≡ x.core → y.berths ≡ x.berths → y.waiting ≡ x.waiting → y.notes.items ≡ x.notes.items → Path b k 0 x y said said out out
  stays x y said out label core berths waiting notes = record {
    label = label;
    added = [];
    notes = notes ∙ sym (append-nil x.notes.items);
    told = sym (append-nil said);
    bear = tt;
    few = tt;
    puts = refl;
    outs = sym (append-nil (tokens out));
    events = [];
    count = refl;
    leads = λ f ps n a. (noted-along x y f label core berths waiting notes n, a);
    ordered = λ f ps n a. tt;
    marks_are = λ f ps n a. refl;
    runs = λ h. tt;
  }

  pub none : (x : NotedCore) (out : List Transit) → Goes k 0 x x out out
  none x out = stays x x x.told.items out refl refl refl refl refl

  pub same : (x y : NotedCore) (out : List Transit) → IsSame x y → Goes k 0 x y out out
  same x y out s = subst (λ (es : List Entry). Path true k 0 x y x.told.items es out out) (sym s.told) (stays x y x.told.items out s.label s.core s.berths s.waiting s.notes)

  module _ {w : Bool} (m n q : ℕ) (x y z : NotedCore) (s t u : List Entry) (a b c : List Transit) (g : Path w k m x y s t a b) (h : Path w k n y z t u b c) (e : m + n ≡ q) where
    pub andThen : Path w k q x z s u a c
    andThen = record {
      label = h.label ∙ g.label;
      added = g.added ++ h.added;
      notes = h.notes ∙ (ap (λ (l : List Note). l ++ h.added) g.notes ∙ append_assoc x.notes.items g.added h.added);
      told =
          h.told ∙ (ap (λ (l : List Entry). l ++ map (λ (i : Note). i.entry) h.added) g.told
          ∙ (append_assoc s (map (λ (i : Note). i.entry) g.added) (map (λ (i : Note). i.entry) h.added)
          ∙ ap (λ (l : List Entry). s ++ l) (sym (told-append g.added h.added))));
      bear = bear-append k g.added h.added g.bear h.bear;
      few = below-append x.label.tenants g.added h.added g.few (subst (λ (l : Label). AreBelow l.tenants h.added) g.label h.few);
      puts = puts-append g.added h.added ∙ (ap (λ (l : List Token). l ++ puts h.added) g.puts ∙ h.puts);
      outs =
          h.outs ∙ (ap (λ (l : List Token). l ++ outs h.added) g.outs
          ∙ (append_assoc (tokens a) (outs g.added) (outs h.added) ∙ ap (λ (l : List Token). tokens a ++ l) (sym (outs-append g.added h.added))));
      events = g.events ++ h.events;
      count = cycles-append g.events h.events ∙ (ap (λ (i : ℕ). i + cycles_in h.events) g.count ∙ (ap (λ (i : ℕ). m + i) h.count ∙ e));
      leads = leads;
      ordered = ordered;
      marks_are = marks_are;
      runs = λ i. closed-append g.added h.added (g.runs i) (h.runs i);
    }
      where
        leads : (f : Fabric) (ps : List Point) → IsNoted x f → AreOut a ps →
            IsNoted z (run (g.events ++ h.events) (start f ps)).fabric × AreOut c (run (g.events ++ h.events) (start f ps)).transit
        leads f ps i o =
            let w = run g.events (start f ps) in
            let mid = g.leads f ps i o in
            subst (λ (v : World). IsNoted z v.fabric × AreOut c v.transit) (sym (run-append g.events h.events (start f ps))) (h.leads w.fabric w.transit mid.0 mid.1)

        ordered : (f : Fabric) (ps : List Point) → IsNoted x f → AreOut a ps → AreInOrder (g.events ++ h.events) (start f ps)
        ordered f ps i o =
            let w = run g.events (start f ps) in
            let mid = g.leads f ps i o in
            order-append g.events h.events (start f ps) (g.ordered f ps i o) (h.ordered w.fabric w.transit mid.0 mid.1)

        marks_are : (f : Fabric) (ps : List Point) → IsNoted x f → AreOut a ps → marks (g.added ++ h.added) ≡ all_called_for (g.events ++ h.events) (start f ps)
        marks_are f ps i o =
            let w = run g.events (start f ps) in
            let mid = g.leads f ps i o in
            marks-append g.added h.added
            ∙ (ap (λ (l : List Mark). l ++ marks h.added) (g.marks_are f ps i o)
            ∙ (ap (λ (l : List Mark). all_called_for g.events (start f ps) ++ l) (h.marks_are w.fabric w.transit mid.0 mid.1) ∙ sym (called-append g.events h.events (start f ps))))

  -- a closed path is a path
  pub opened : (n : ℕ) (x y : NotedCore) (s t : List Entry) (a b : List Transit) → Path true k n x y s t a b → Path false k n x y s t a b
  opened n x y s t a b g = record {
    label = g.label;
    added = g.added;
    notes = g.notes;
    told = g.told;
    bear = g.bear;
    few = g.few;
    puts = g.puts;
    outs = g.outs;
    events = g.events;
    count = g.count;
    leads = g.leads;
    ordered = g.ordered;
    marks_are = g.marks_are;
    runs = λ e. let z : ⊥ = cc in absurd z;
  }

  -- where nobody is, nobody comes to be
  pub empty-on : {w : Bool} (m : ℕ) (x y : NotedCore) (s t : List Entry) (a b : List Transit) → Path w k m x y s t a b → IsEmpty x.notes.items → IsEmpty y.notes.items
  empty-on m x y s t a b g e =
      ap (replay []) g.notes ∙ (replay-append [] x.notes.items g.added ∙ (ap (λ (ss : List Seat). replay ss g.added) e ∙ still-nobody g.added g.puts))
