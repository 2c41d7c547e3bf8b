-- What every legal history keeps of the worth of its tokens, and what follows for all closed bays.
use Rattle.std.proofs.Common.{◌≡◌, ◌≢◌, ℕ, ◌+◌, ◌≤◌, Bool, true, false, Option, Some, None, List, [], ◌∷◌, cond, eqb, refl, sym, ap, ◌∙◌, arith}
use Rattle.std.proofs.lemmas.Bool.{eqb-true}
use Rattle.std.specs.List.{AllByRecursion as ByRecursion}
use Rattle.std.specs.Prelude.{not, ◌||◌, ◌==◌, filter, if◌then◌else◌}
use Rattle.fab_core.specs.vl_design.specs.Alone.{FreeSave}
use Rattle.fab_core.specs.fab_lock.specs.declared.entry.Entry.{Entry}
use Rattle.fab_core.specs.fab_lock.specs.declared.entry.Kind.{Kind}
use Rattle.fab_core.specs.fab_lock.specs.declared.entry.Kind.TheVariants.{Line, Came, Ran, Saved, Left}
use Rattle.fab_core.specs.fab_lock.specs.Histories.{notes_of}
use Rattle.fab_core.specs.fab_model.specs.declared.transit.Stay.{Stay}
use Rattle.fab_core.specs.fab_model.specs.declared.note.Note.{Note}
use Rattle.fab_core.specs.fab_model.specs.Deeds.{Deed, deed_in}
use Rattle.fab_core.specs.fab_model.specs.Histories.{Place, Away, Inside, put, next, stay_now, stay_at, stays_from, stays_of, of_tenant, is_line, AreLinesByFirst, IsLawful, May, MayLeave}
use Rattle.fab_core.specs.fab_model.specs.Tokens.{told, put_at, out_at, puts, outs, Token}
use Rattle.fab_core.specs.fab_model.proofs.Legality.{each_is_lawful}
use Rattle.fab_core.specs.fab_model.specs.Histories.{entry_of}
use Rattle.fab_desk.specs.fab_bay.specs.declared.noted.NotedCore.{NotedCore}
use Rattle.fab_orders.specs.Totals.{total}
use Rattle.fab_orders.specs.Outcomes.{stays_there, IsClosed}
use Rattle.fab_orders.proofs.Totals.{total-append, total_none, total_zero}

-- the worth of a token, whoever's, and of the one that is inside
abbrev pub price : (List FreeSave → ℕ) → (Stay → ℕ) → Token → ℕ
price c w x = c x.deed.free + total w x.deed.stays

abbrev pub held : (List FreeSave → ℕ) → (Stay → ℕ) → Place → ℕ
held c w Away = 0
held c w (Inside since now came d) = c d.free + total w d.stays

-- what a token of tenant t is worth: c of the snapshots made besides, and w of each stay that it has with it
abbrev pub worth : ℕ → (List FreeSave → ℕ) → (Stay → ℕ) → Token → ℕ
worth t c w x = if x.tenant == t then c x.deed.free + total w x.deed.stays else 0

-- where a tenant is behind its notes
abbrev pub finally : Place → List Note → Place
finally p [] = p
finally p (n ∷ ns) = finally (next n.entry.kind p n) ns

module _ (g : ℕ) (c : List FreeSave → ℕ) (w : Stay → ℕ) where
  line-worth : (e : Entry) (o : Option Deed) → held c w (put e o) ≡ total (price c w) (told e o)
  line-worth e None = refl
  line-worth e (Some d) = omega arith

  left-worth : (since now : ℕ) (came : Bool) (d : Deed) (e : Entry) (o : Option Deed) → MayLeave g since now came d e o → total (price c w) (told e o) ≡ c d.free + total w d.stays + total w (stay_now g since now came d)
  left-worth since now came d e o m = omega (
    arith,
    ap (λ (x : Option Deed). total (price c w) (told e x)) m.known,
    ap c m.free,
    ap (total w) m.stays,
    total-append w d.stays (stay_now g since now came d),
  )

  step : (k : Kind) (p : Place) (n : Note) → May g k p n → total (price c w) (out_at k n) + held c w (next k p n) ≡ total (price c w) (put_at k n) + total w (stay_at g k p) + held c w p
  step Line Away n m = omega (arith, line-worth n.entry (deed_in n))
  step Line (Inside since now came d) n m = absurd m
  step Came Away n m = absurd m
  step Came (Inside since now came d) n m = omega arith
  step Ran Away n m = absurd m
  step Ran (Inside since now came d) n m = omega arith
  step Saved Away n m = absurd m
  step Saved (Inside since now came d) n m = omega arith
  step Left Away n m = absurd m
  step Left (Inside since now came d) n m = omega (arith, left-worth since now came d n.entry (deed_in n) m.0)

  -- what came out is what was put, with the stays that ended
  pub conserved : (p : Place) (ns : List Note) → IsLawful g p ns → total (price c w) (outs ns) + held c w (finally p ns) ≡ total (price c w) (puts ns) + total w (stays_from g p ns) + held c w p
  conserved p [] l = omega arith
  conserved p (n ∷ ns) l = omega (
    arith,
    step n.entry.kind p n l.0,
    conserved (next n.entry.kind p n) ns l.1,
    total-append (price c w) (out_at n.entry.kind n) (outs ns),
    total-append (price c w) (put_at n.entry.kind n) (puts ns),
    total-append w (stay_at g n.entry.kind p) (stays_from g (next n.entry.kind p n) ns),
  )

-- the notes of all seats but two
abbrev pub by_others : ℕ → List Note → List Note
by_others v = filter (λ n. not ((eqb n.entry.seat 0) || (eqb n.entry.seat v)))

module _ (f : Token → ℕ) where
  others : (v : ℕ) (a b : Bool) → (a ≡ true → b ≡ true → ⊥) → (x y z o n : ℕ) → n ≡ x + y + z → cond a (o + x) x + cond b (o + y) y + cond (not (a || b)) (o + z) z ≡ o + n
  others v true true e x y z o n h = absurd (e refl refl)
  others v true false e x y z o n h = omega arith
  others v false true e x y z o n h = omega arith
  others v false false e x y z o n h = omega arith

  out_cond : (b : Bool) (n : Note) (ns : List Note) → total f (outs (cond b (n ∷ ns) ns)) ≡ cond b (total f (out_at n.entry.kind n) + total f (outs ns)) (total f (outs ns))
  out_cond true n ns = total-append f (out_at n.entry.kind n) (outs ns)
  out_cond false n ns = refl

  put_cond : (b : Bool) (n : Note) (ns : List Note) → total f (puts (cond b (n ∷ ns) ns)) ≡ cond b (total f (put_at n.entry.kind n) + total f (puts ns)) (total f (puts ns))
  put_cond true n ns = total-append f (put_at n.entry.kind n) (puts ns)
  put_cond false n ns = refl

  -- what came out, by the seats that wrote it
  pub outs_apart : (v : ℕ) → v ≢ 0 → (ns : List Note) → total f (outs (notes_of entry_of 0 ns)) + total f (outs (notes_of entry_of v ns)) + total f (outs (by_others v ns)) ≡ total f (outs ns)
  outs_apart v ne [] = omega arith
  outs_apart v ne (n ∷ ns) = omega (
    arith,
    out_cond (eqb n.entry.seat 0) n (notes_of entry_of 0 ns),
    out_cond (eqb n.entry.seat v) n (notes_of entry_of v ns),
    out_cond (not (eqb n.entry.seat 0 || eqb n.entry.seat v)) n (by_others v ns),
    others v (eqb n.entry.seat 0) (eqb n.entry.seat v) (λ p q. ne (sym (eqb-true n.entry.seat v q) ∙ eqb-true n.entry.seat 0 p))
        (total f (outs (notes_of entry_of 0 ns))) (total f (outs (notes_of entry_of v ns))) (total f (outs (by_others v ns))) (total f (out_at n.entry.kind n)) (total f (outs ns)) (sym (outs_apart v ne ns)),
    total-append f (out_at n.entry.kind n) (outs ns),
  )

  same_cond : (b : Bool) (x : ℕ) → cond b (0 + x) x ≡ 0 + x
  same_cond true x = refl
  same_cond false x = omega arith

  put_zero : (k : Kind) (n : Note) (x : ℕ) → (is_line k ≡ true → n.entry.seat ≡ 0) → cond (eqb n.entry.seat 0) (total f (put_at k n) + x) x ≡ total f (put_at k n) + x
  put_zero Line n x z = ap (λ (s : ℕ). cond (eqb s 0) (total f (put_at Line n) + x) x) (z refl)
  put_zero Came n x z = same_cond (eqb n.entry.seat 0) x
  put_zero Ran n x z = same_cond (eqb n.entry.seat 0) x
  put_zero Saved n x z = same_cond (eqb n.entry.seat 0) x
  put_zero Left n x z = same_cond (eqb n.entry.seat 0) x

  -- each put is the first seat's
  pub puts_by_zero : (ns : List Note) → AreLinesByFirst ns → total f (puts (notes_of entry_of 0 ns)) ≡ total f (puts ns)
  puts_by_zero [] l = refl
  puts_by_zero (n ∷ ns) l = omega (
    arith,
    put_cond (eqb n.entry.seat 0) n (notes_of entry_of 0 ns),
    ap (λ (x : ℕ). cond (eqb n.entry.seat 0) (total f (put_at n.entry.kind n) + x) x) (puts_by_zero ns l.1),
    put_zero n.entry.kind n (total f (puts ns)) l.0,
    total-append f (put_at n.entry.kind n) (puts ns),
  )

module _ (t : ℕ) (c : List FreeSave → ℕ) (w : Stay → ℕ) where
  one : (b : Bool) (x : ℕ) → cond b x 0 + 0 ≡ cond b (x + 0) 0
  one true x = refl
  one false x = omega arith

  none : (b : Bool) → ◌≡◌ {A = ℕ} 0 (cond b 0 0)
  none true = refl
  none false = refl

  told_worth : (e : Entry) (o : Option Deed) → total (worth t c w) (told e o) ≡ cond (eqb e.tenant t) (total (price c w) (told e o)) 0
  told_worth e None = none (eqb e.tenant t)
  told_worth e (Some d) = one (eqb e.tenant t) (c d.free + total w d.stays)

  out_worth : (k : Kind) (n : Note) → total (worth t c w) (out_at k n) ≡ cond (eqb n.entry.tenant t) (total (price c w) (out_at k n)) 0
  out_worth Line n = none (eqb n.entry.tenant t)
  out_worth Came n = none (eqb n.entry.tenant t)
  out_worth Ran n = none (eqb n.entry.tenant t)
  out_worth Saved n = none (eqb n.entry.tenant t)
  out_worth Left n = told_worth n.entry (deed_in n)

  put_worth : (k : Kind) (n : Note) → total (worth t c w) (put_at k n) ≡ cond (eqb n.entry.tenant t) (total (price c w) (put_at k n)) 0
  put_worth Line n = told_worth n.entry (deed_in n)
  put_worth Came n = none (eqb n.entry.tenant t)
  put_worth Ran n = none (eqb n.entry.tenant t)
  put_worth Saved n = none (eqb n.entry.tenant t)
  put_worth Left n = none (eqb n.entry.tenant t)

  split : (b : Bool) (x y : ℕ) → cond b x 0 + y ≡ cond b (x + y) y
  split true x y = refl
  split false x y = omega arith

  outs_of : (ns : List Note) → total (worth t c w) (outs ns) ≡ total (price c w) (outs (of_tenant t ns))
  outs_of [] = refl
  outs_of (n ∷ ns) = omega (
    arith,
    total-append (worth t c w) (out_at n.entry.kind n) (outs ns),
    out_worth n.entry.kind n,
    outs_of ns,
    split (eqb n.entry.tenant t) (total (price c w) (out_at n.entry.kind n)) (total (price c w) (outs (of_tenant t ns))),
    out_cond (price c w) (eqb n.entry.tenant t) n (of_tenant t ns),
  )

  puts_of : (ns : List Note) → total (worth t c w) (puts ns) ≡ total (price c w) (puts (of_tenant t ns))
  puts_of [] = refl
  puts_of (n ∷ ns) = omega (
    arith,
    total-append (worth t c w) (put_at n.entry.kind n) (puts ns),
    put_worth n.entry.kind n,
    puts_of ns,
    split (eqb n.entry.tenant t) (total (price c w) (put_at n.entry.kind n)) (total (price c w) (puts (of_tenant t ns))),
    put_cond (price c w) (eqb n.entry.tenant t) n (of_tenant t ns),
  )

-- ---- all bays

-- the worth of a tenant that is still in a bay, and of what was put there and came out there
abbrev pub still : ℕ → (List FreeSave → ℕ) → (Stay → ℕ) → NotedCore → ℕ
still t c w b = held c w (finally Away (of_tenant t b.notes.items))

abbrev pub puts_in : (Token → ℕ) → NotedCore → ℕ
puts_in f b = total f (puts b.notes.items)

abbrev pub outs_in : (Token → ℕ) → NotedCore → ℕ
outs_in f b = total f (outs b.notes.items)

-- it is a closed bay by its own label
abbrev pub IsOneClosed : NotedCore → Type 0
IsOneClosed b = IsClosed b.label b

module _ (t : ℕ) (c : List FreeSave → ℕ) (w : Stay → ℕ) where
  kept : (b : NotedCore) → IsOneClosed b → outs_in (worth t c w) b + still t c w b ≡ puts_in (worth t c w) b + stays_there t w b
  kept b k = omega (
    arith,
    outs_of t c w b.notes.items,
    puts_of t c w b.notes.items,
    conserved b.label.fabric c w Away (of_tenant t b.notes.items) (each_is_lawful b.label.fabric t b.label.capacity b.notes.items k.legal),
  )

  pub kept_all : (bs : List NotedCore) → ByRecursion IsOneClosed bs → total (outs_in (worth t c w)) bs + total (still t c w) bs ≡ total (puts_in (worth t c w)) bs + total (stays_there t w) bs
  kept_all [] k = omega arith
  kept_all (b ∷ bs) k = omega (arith, kept b k.0, kept_all bs k.1)

abbrev pub each : List FreeSave → ℕ
each s = 1

abbrev pub nothing : Stay → ℕ
nothing s = 0

module _ (t : ℕ) (c : List FreeSave → ℕ) (w : Stay → ℕ) where
  worthless : (b : Bool) (d : Deed) → cond b (1 + total nothing d.stays) 0 ≡ 0 → cond b (c d.free + total w d.stays) 0 ≡ 0
  worthless true d e = absurd (omega arith)
  worthless false d e = refl

  empty : (p : Place) → held each nothing p ≡ 0 → held c w p ≡ 0
  empty Away e = refl
  empty (Inside since now came d) e = absurd (omega arith)

  no_stays : (b : NotedCore) → stays_there t nothing b ≡ 0
  no_stays b = total_none nothing (λ s. refl) (stays_of b.label.fabric t b.notes.items)

  -- Where what was loaded or came out at the seats is what was put there and what is in hand, and of the tenant no less is in hand than was loaded: it is in hand with all its stays on all fabrics
  pub settled : (loaded given hand placed : (Token → ℕ) → ℕ) (rest : List Token) (bs : List NotedCore) → ByRecursion IsOneClosed bs
      → ((f : Token → ℕ) → loaded f + given f ≡ placed f + hand f)
      → ((f : Token → ℕ) → total (outs_in f) bs ≡ given f + total f rest)
      → ((f : Token → ℕ) → total (puts_in f) bs ≡ placed f)
      → loaded (worth t each nothing) ≤ hand (worth t each nothing)
      → loaded (worth t c w) + total (stays_there t w) bs ≡ hand (worth t c w)
  settled loaded given hand placed rest bs k balanced out in' there =
      let n = worth t each nothing in let f = worth t c w in
      let a = kept_all t each nothing bs k in let b = kept_all t c w bs k in
      let e = balanced n in let o = out n in let p = in' n in
      let z = total_none (stays_there t nothing) no_stays bs in
      let still_none : total (still t each nothing) bs ≡ 0 = omega arith in
      let rest_none : total n rest ≡ 0 = omega arith in
      let still_zero = total_zero (still t each nothing) (still t c w) (λ x. empty (finally Away (of_tenant t x.notes.items))) bs still_none in
      let rest_zero = total_zero n f (λ x. worthless (eqb x.tenant t) x.deed) rest rest_none in
      let e' = balanced f in let o' = out f in let p' = in' f in
      omega arith

-- then nobody of its number is in a bay any more, or came out elsewhere
pub nobody_left : (t : ℕ) (loaded given hand placed : (Token → ℕ) → ℕ) (rest : List Token) (bs : List NotedCore) → ByRecursion IsOneClosed bs
    → ((f : Token → ℕ) → loaded f + given f ≡ placed f + hand f)
    → ((f : Token → ℕ) → total (outs_in f) bs ≡ given f + total f rest)
    → ((f : Token → ℕ) → total (puts_in f) bs ≡ placed f)
    → loaded (worth t each nothing) ≤ hand (worth t each nothing)
    → (total (still t each nothing) bs ≡ 0) × (total (worth t each nothing) rest ≡ 0)
nobody_left t loaded given hand placed rest bs k balanced out in' there =
    let n = worth t each nothing in
    let a = kept_all t each nothing bs k in
    let e = balanced n in let o = out n in let p = in' n in
    let z = total_none (stays_there t nothing) (no_stays t each nothing) bs in
    (omega arith, omega arith)
