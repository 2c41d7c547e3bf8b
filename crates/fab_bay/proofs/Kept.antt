-- A core's history one note longer, and what calls write.
use Rattle.std.proofs.Common.{◌≡◌, ℕ, ◌<◌, true, false, List, [], ◌∷◌, ◌++◌, map, refl, sym, ap, ◌∙◌, subst, append_assoc}
use Rattle.std.proofs.lemmas.List.{append-nil}
use Rattle.fab_core.specs.fab_lock.specs.declared.entry.Entry.{Entry}
use Rattle.fab_core.specs.fab_lock.specs.declared.entry.Kind.{Kind}
use Rattle.fab_core.specs.fab_model.specs.Points.{Point}
use Rattle.fab_core.specs.fab_model.specs.Fabrics.{Fabric}
use Rattle.fab_core.specs.fab_model.specs.Worlds.{run, Event}
use Rattle.fab_core.specs.declared.cores.FabCore.{FabCore}
use Rattle.fab_core.specs.Standing.{IsFabric}
use Rattle.fab_core.specs.fab_model.specs.declared.note.Note.{Note}
use Rattle.fab_core.specs.fab_model.specs.declared.transit.Transit.{Transit}
use Rattle.fab_core.specs.fab_model.specs.Histories.{after, is_line, place_of, replay, AreLinesByFirst, HasRoom, IsLegal, May}
use Rattle.fab_core.specs.fab_model.specs.Tokens.{out_at, outs, put_at, puts, Token}
use Rattle.fab_bay.specs.declared.berth.Berth.{Berth}
use Rattle.fab_bay.specs.declared.noted.Label.{Label}
use Rattle.fab_bay.specs.declared.noted.NotedCore.{NotedCore}
use Rattle.fab_bay.specs.Berths.{seats, AreBerths, AreWaiters}
use Rattle.fab_bay.specs.Standing.{IsNoted, IsSame}
use Rattle.fab_bay.specs.Marks.{all_called_for, AreClosed, mark_at, marks, Mark}
use Rattle.fab_bay.specs.Ways.{cycles_in, tokens, AreBelow, AreInOrder, AreOut, Goes, IsWritten, Settles}
use Rattle.fab_core.specs.fab_model.proofs.Legality.{kept_legal, kept_replay}
use Rattle.fab_bay.proofs.Going.{bear-append, below-append, closed-none, marks-append, outs-append, puts-append, told-append}

-- ---- a history

-- it is legal, and its replay is these residents and this line
pub record IsTold (l : Label) (notes : List Note) (bs ws : List Berth) : Type 0 where
  pub legal : IsLegal l.fabric l.capacity notes
  pub replayed : replay [] notes ≡ seats bs ws
  pub lines : l.any_puts ≡ false → AreLinesByFirst notes

pub told_of : (x : NotedCore) (f : Fabric) → IsNoted x f → IsTold x.label x.notes.items x.berths.items x.waiting.items
told_of x f h = record { legal = h.legal; replayed = h.replayed; lines = h.lines }

lines-snoc : (notes : List Note) (n : Note) → AreLinesByFirst notes → (is_line n.entry.kind ≡ true → n.entry.seat ≡ 0) → AreLinesByFirst (notes ++ n ∷ [])
lines-snoc [] n h e = (e, tt)
lines-snoc (x ∷ xs) n h e = (h.0, lines-snoc xs n h.1 e)

module _ (l : Label) (notes : List Note) (n : Note) (bs ws bs' ws' : List Berth) (k : Kind) (is : n.entry.kind ≡ k) where
  -- a note of this kind that may follow, and what is told then
  pub told_next : IsTold l notes bs ws → May l.fabric k (place_of n.entry.tenant (seats bs ws)) n → HasRoom l.capacity k (seats bs ws) n → after k (seats bs ws) n ≡ seats bs' ws'
      → (l.any_puts ≡ false → is_line k ≡ true → n.entry.seat ≡ 0) → IsTold l (notes ++ n ∷ []) bs' ws'
  told_next t m r e z = record {
    legal =
        kept_legal l.fabric l.capacity notes n (seats bs ws) t.legal t.replayed (subst (λ (j : Kind). May l.fabric j (place_of n.entry.tenant (seats bs ws)) n) (sym is) m)
        (subst (λ (j : Kind). HasRoom l.capacity j (seats bs ws) n) (sym is) r);
    replayed = kept_replay notes n (seats bs ws) (seats bs' ws') t.replayed (ap (λ (j : Kind). after j (seats bs ws) n) is ∙ e);
    lines = λ o. lines-snoc notes n (t.lines o) (λ i. z o (ap is_line (sym is) ∙ i));
  }

-- what stands for a fabric, by its lists
pub noted_by : (y : NotedCore) (l : Label) (notes : List Note) (bs ws : List Berth) (f : Fabric) → y.label ≡ l → y.notes.items ≡ notes → y.berths.items ≡ bs → y.waiting.items ≡ ws
    → IsFabric y.core f → f.capacity ≡ l.capacity → AreBerths l.tenants bs f.residents → AreWaiters l.tenants ws f.line → IsTold l notes bs ws → IsNoted y f
noted_by y l notes bs ws f el en eb ew core capacity residents line t = record {
  core = core;
  capacity = capacity ∙ ap (λ (z : Label). z.capacity) (sym el);
  residents =
      subst (λ (z : Label). AreBerths z.tenants y.berths.items f.residents) (sym el)
      (subst (λ (zs : List Berth). AreBerths l.tenants zs f.residents) (sym eb) residents);
  line =
      subst (λ (z : Label). AreWaiters z.tenants y.waiting.items f.line) (sym el)
      (subst (λ (zs : List Berth). AreWaiters l.tenants zs f.line) (sym ew) line);
  legal =
      subst (λ (z : Label). IsLegal z.fabric z.capacity y.notes.items) (sym el)
      (subst (λ (ns : List Note). IsLegal l.fabric l.capacity ns) (sym en) t.legal);
  replayed = ap (replay []) en ∙ (t.replayed ∙ (ap (λ zs. seats zs ws) (sym eb) ∙ ap (λ zs. seats y.berths.items zs) (sym ew)));
  lines = λ o. subst (λ (ns : List Note). AreLinesByFirst ns) (sym en) (t.lines (ap (λ (z : Label). z.any_puts) (sym el) ∙ o));
}

-- ---- what is written

pub written_none : (k : ℕ) (x y : NotedCore) → y.label ≡ x.label → y.notes.items ≡ x.notes.items → y.told.items ≡ x.told.items → IsWritten k x y [] []
written_none k x y l n t = record {
  label = l;
  added = [];
  notes = n ∙ sym (append-nil x.notes.items);
  told = t ∙ sym (append-nil x.told.items);
  bear = tt;
  few = tt;
  puts = refl;
  outs = refl;
  marks_are = refl;
}

pub written_one : (k : ℕ) (x y : NotedCore) (n : Note) (out : List Token) (ms : List Mark) → y.label ≡ x.label → y.notes.items ≡ x.notes.items ++ n ∷ [] → y.told.items ≡ x.told.items ++ n.entry ∷ [] → n.entry.seat ≡ k
    → n.entry.tenant < x.label.tenants → put_at n.entry.kind n ≡ [] → out_at n.entry.kind n ≡ out → mark_at n.entry.kind n.entry ≡ ms → IsWritten k x y out ms
written_one k x y n out ms l ns ts seat few p o m = record {
  label = l;
  added = n ∷ [];
  notes = ns;
  told = ts;
  bear = (seat, tt);
  few = (few, tt);
  puts = append-nil (put_at n.entry.kind n) ∙ p;
  outs = append-nil (out_at n.entry.kind n) ∙ o;
  marks_are = append-nil (mark_at n.entry.kind n.entry) ∙ m;
}

pub written_then : (k : ℕ) (x y z : NotedCore) (a b : List Token) (ms ns : List Mark) → IsWritten k x y a ms → IsWritten k y z b ns → IsWritten k x z (a ++ b) (ms ++ ns)
written_then k x y z a b ms ns g h = record {
  label = h.label ∙ g.label;
  added = g.added ++ h.added;
  notes = h.notes ∙ (ap (λ (l : List Note). l ++ h.added) g.notes ∙ append_assoc x.notes.items g.added h.added);
  told =
      h.told ∙ (ap (λ (l : List Entry). l ++ map (λ (i : Note). i.entry) h.added) g.told
      ∙ (append_assoc x.told.items (map (λ (i : Note). i.entry) g.added) (map (λ (i : Note). i.entry) h.added)
      ∙ ap (λ (l : List Entry). x.told.items ++ l) (sym (told-append g.added h.added))));
  bear = bear-append k g.added h.added g.bear h.bear;
  few = below-append x.label.tenants g.added h.added g.few (subst (λ (l : Label). AreBelow l.tenants h.added) g.label h.few);
  puts = puts-append g.added h.added ∙ (ap (λ (l : List Token). l ++ puts h.added) g.puts ∙ h.puts);
  outs = outs-append g.added h.added ∙ (ap (λ (l : List Token). l ++ outs h.added) g.outs ∙ ap (λ (l : List Token). a ++ l) h.outs);
  marks_are = marks-append g.added h.added ∙ (ap (λ (l : List Mark). l ++ marks h.added) g.marks_are ∙ ap (λ (l : List Mark). ms ++ l) h.marks_are);
}

-- what is known to be runs alone
pub written_of : (k : ℕ) (x y : NotedCore) → (g : Settles k x y []) → marks g.added ≡ [] → IsWritten k x y [] []
written_of k x y g e = record { label = g.label; added = g.added; notes = g.notes; told = g.told; bear = g.bear; few = g.few; puts = g.puts; outs = sym g.outs; marks_are = e }

-- what is written, and what happens
pub goes_by : (k m : ℕ) (x y : NotedCore) (out out' : List Transit) (ts : List Token) (ms : List Mark) (es : List Event) → IsWritten k x y ts ms → ((added : List Note) → y.notes.items ≡ x.notes.items ++ added → AreClosed added) → tokens out' ≡ tokens out ++ ts → cycles_in es ≡ m
    → ((f : Fabric) (ps : List Point) → IsNoted x f → AreOut out ps → IsNoted y (run es (record { fabric = f; transit = ps })).fabric × AreOut out' (run es (record { fabric = f; transit = ps })).transit)
    → ((f : Fabric) (ps : List Point) → IsNoted x f → AreOut out ps → AreInOrder es (record { fabric = f; transit = ps }))
    → ((f : Fabric) (ps : List Point) → IsNoted x f → AreOut out ps → ms ≡ all_called_for es (record { fabric = f; transit = ps })) → Goes k m x y out out'
goes_by k m x y out out' ts ms es w closed o count leads ordered calls = record {
  label = w.label;
  added = w.added;
  notes = w.notes;
  told = w.told;
  bear = w.bear;
  few = w.few;
  puts = w.puts;
  outs = o ∙ ap (λ (l : List Token). tokens out ++ l) (sym w.outs);
  events = es;
  count = count;
  leads = leads;
  ordered = ordered;
  marks_are = λ f ps h a. w.marks_are ∙ calls f ps h a;
  runs = λ i. closed w.added w.notes;
}

-- ---- nothing done

-- all that contracts know is the same, and the core stands for what it stood for
pub record IsStill (x y : NotedCore) : Type 0 where
  pub label : y.label ≡ x.label
  pub core : (f : Fabric) → IsFabric x.core f → IsFabric y.core f
  pub berths : y.berths.items ≡ x.berths.items
  pub waiting : y.waiting.items ≡ x.waiting.items
  pub notes : y.notes.items ≡ x.notes.items
  pub told : y.told.items ≡ x.told.items

pub still_of : (x y : NotedCore) → IsSame x y → IsStill x y
still_of x y s = record {
  label = s.label;
  core = λ f h. subst (λ (c : FabCore). IsFabric c f) (sym s.core) h;
  berths = ap (λ v. v.items) s.berths;
  waiting = ap (λ v. v.items) s.waiting;
  notes = s.notes;
  told = s.told;
}

-- the other way round
pub still_back : (x y : NotedCore) → IsSame x y → IsStill y x
still_back x y s = record {
  label = sym s.label;
  core = λ f h. subst (λ (c : FabCore). IsFabric c f) s.core h;
  berths = ap (λ v. v.items) (sym s.berths);
  waiting = ap (λ v. v.items) (sym s.waiting);
  notes = sym s.notes;
  told = sym s.told;
}

pub still_noted : (x y : NotedCore) (f : Fabric) → IsStill x y → IsNoted x f → IsNoted y f
still_noted x y f s h =
    noted_by y x.label x.notes.items x.berths.items x.waiting.items f s.label s.notes s.berths s.waiting (s.core f h.core) h.capacity h.residents h.line (told_of x f h)

pub still_goes : (k : ℕ) (x y : NotedCore) (out : List Transit) → IsStill x y → Goes k 0 x y out out
still_goes k x y out s =
    goes_by k 0 x y out out [] [] [] (written_none k x y s.label s.notes s.told) (λ added e. closed-none x.notes.items y.notes.items added s.notes e) (sym (append-nil (tokens out))) refl (λ f ps h o. (still_noted x y f s h, o)) (λ f ps h o. tt) (λ f ps h o. refl)

-- one more is out
pub out-snoc : (ts : List Transit) (t : Transit) (ps : List Point) (p : Point) → AreOut ts ps → AreOut (t ∷ []) (p ∷ []) → AreOut (ts ++ t ∷ []) (ps ++ p ∷ [])
out-snoc [] t [] p h e = e
out-snoc [] t (q ∷ ps) p h e = absurd h
out-snoc (s ∷ ts) t [] p h e = absurd h
out-snoc (s ∷ ts) t (q ∷ ps) p h e = (h.0, out-snoc ts t ps p h.1 e)

pub tokens-snoc : (ts : List Transit) (t : Transit) → tokens (ts ++ t ∷ []) ≡ tokens ts ++ tokens (t ∷ [])
tokens-snoc [] t = refl
tokens-snoc (s ∷ ts) t = ap (λ (l : List Token). tokens (s ∷ []) ++ l) (tokens-snoc ts t)

-- what goes on from where nothing was done
pub still_then : (k m : ℕ) (x y z : NotedCore) (out out' : List Transit) → IsStill x y → Goes k m y z out out' → Goes k m x z out out'
still_then k m x y z out out' s g = record {
  label = g.label ∙ s.label;
  added = g.added;
  notes = g.notes ∙ ap (λ (l : List Note). l ++ g.added) s.notes;
  told = g.told ∙ ap (λ (l : List Entry). l ++ map (λ (i : Note). i.entry) g.added) s.told;
  bear = g.bear;
  few = subst (λ (l : Label). AreBelow l.tenants g.added) s.label g.few;
  puts = g.puts;
  outs = g.outs;
  events = g.events;
  count = g.count;
  leads = λ f ps h o. g.leads f ps (still_noted x y f s h) o;
  ordered = λ f ps h o. g.ordered f ps (still_noted x y f s h) o;
  marks_are = λ f ps h o. g.marks_are f ps (still_noted x y f s h) o;
  runs = g.runs;
}
