-- Tables of connections, and what lists of connections say of a name.
use Rattle.std.proofs.Common.{◌≡◌, ℕ, zero, suc, ◌+◌, ◌<◌, Bool, true, false, ◌||◌, cond, if◌then◌else◌, List, [], ◌∷◌, length, map, drop, get_or, Option, Some, None, is_some, Bor, refl, sym, ap, ◌∙◌, drop-cons, arith}
use Rattle.std.specs.Prelude.{option_map, slice_get, fold, find, position, nat_lt, IfSome}
use Rattle.std.proofs.lemmas.Option.{slice_get_past, slice_get_read}
use Rattle.std.specs.Map.{lookup}
use Rattle.std.specs.Option.{option_or, option_map_or, option_and_then}
use Rattle.std.specs.List.{list_any}
use Rattle.std.specs.Str.{bytes_eq}
use Rattle.std.proofs.lemmas.Bool.Decides.{nat_tests}
use Rattle.std.proofs.lemmas.Cmp.{nat_list_eq_equiv}
use Rattle.std.proofs.lemmas.Map.Text.{hash_map_updates_str}
use Rattle.std.proofs.lemmas.Slice.Eq.{bytes_eq-Decides}
use Rattle.indexmap.specs.IndexMap.{IndexMap, UpdatesBy, get_by}
use Rattle.elab_plain.specs.vl_flat.specs.Items as x
use Rattle.elab_plain.specs.vl_flat.specs.Connections as c
use Rattle.elab_plain.specs.declared.items.Connection.{Connection}
use Rattle.elab_plain.specs.SeenItems.{seen_connection}
use Rattle.elab_instance.specs.Tables.{Joined, joined, none, connect, connect_named, take_over, connect_if, nows, in_order_from, in_order, named, among}
use Rattle.elab_plain.specs.vl_base.proofs.Lists.{bytes_eq_from as same_name, drop_suc as drop-some}

-- a connection of a name that has one changes nothing
stays : {X : Type 0} (b : Bool) (o : Option X) (q : X) → (b ≡ true → is_some o ≡ true) → option_or o (if b then Some q else None) ≡ o
stays true None q h = absurd (let e : false ≡ true = h refl in cc)
stays true (Some y) q h = refl
stays false None q h = refl
stays false (Some y) q h = refl

pub connect-known : (before : Joined) (name : List ℕ) (q : x.Connection) → is_some (before name) ≡ true → connect before name q ≡ before
unfolding connect
connect-known before name q h = λ i t. (stays (bytes_eq t name) (before t) q (λ e. ap (λ s. is_some (before s)) (same_name t name e) ∙ h)) i

connect-at : (before : Joined) (n : List ℕ) (q : x.Connection) (t : List ℕ) → connect before n q t ≡ option_or (before t) (if bytes_eq t n then Some q else None)
unfolding connect
connect-at before n q t = refl

turned : (b : Bool) (w : Bor Connection) (o : Option (Bor Connection)) → (b ≡ true → is_some o ≡ false)
    → option_map (λ q. seen_connection q.now) (cond b (Some w) o) ≡ option_or (option_map (λ q. seen_connection q.now) o) (if b then Some (seen_connection w.now) else None)
turned true w None h = refl
turned true w (Some y) h = absurd (let e : true ≡ false = h refl in cc)
turned false w None h = refl
turned false w (Some y) h = refl

-- a table after a key is put in that it hadn't
pub joined-insert : {S : Type 0} (m n : IndexMap (Bor (List ℕ)) (Bor Connection) S) (bs : List ℕ) (w : Bor Connection)
    → UpdatesBy (λ x y. bytes_eq x.now y.now) (λ k. bytes_eq bs k.now) m n (Some w) → is_some (joined m bs) ≡ false
    → joined n ≡ connect (joined m) bs (seen_connection w.now)
unfolding joined connect
joined-insert m n bs w u new = λ i t. (
    ap (option_map (λ q. seen_connection q.now)) (hash_map_updates_str bs m n (Some w) u t)
    ∙ turned (bytes_eq bs t) w (get_by (λ k. bytes_eq t k.now) m) (λ e. missing (get_by (λ k. bytes_eq t k.now) m) (ap (λ s. is_some (option_map (λ q. seen_connection q.now) (get_by (λ k. bytes_eq s k.now) m))) (sym (same_name bs t e)) ∙ new))
    ∙ ap (λ b. option_or (option_map (λ q. seen_connection q.now) (get_by (λ k. bytes_eq t k.now) m)) (if b then Some (seen_connection w.now) else None)) (nat_list_eq_equiv.symm bs t)) i
  where
    missing : (o : Option (Bor Connection)) → is_some (option_map (λ q. seen_connection q.now) o) ≡ false → is_some o ≡ false
    missing None h = refl
    missing (Some y) h = h

pub joined-empty : {S : Type 0} (m : IndexMap (Bor (List ℕ)) (Bor Connection) S) → m.entries ≡ [] → joined m ≡ none
unfolding joined
joined-empty m e = λ i t. (ap (λ es. option_map (λ q. seen_connection q.now) (lookup (λ k. bytes_eq t k.now) es)) e) i

-- a table has a name that has a connection
pub joined-some : {S : Type 0} (m : IndexMap (Bor (List ℕ)) (Bor Connection) S) (bs : List ℕ) → is_some (get_by (λ k. bytes_eq bs k.now) m) ≡ is_some (joined m bs)
unfolding joined
joined-some m bs = by (get_by (λ k. bytes_eq bs k.now) m)
  where
    by : (o : Option (Bor Connection)) → is_some o ≡ is_some (option_map (λ q. seen_connection q.now) o)
    by None = refl
    by (Some y) = refl

-- ---- connections by order

or-none : {X : Type 0} (o : Option X) → option_or o None ≡ o
or-none None = refl
or-none (Some y) = refl

or-assoc : {X : Type 0} (a b d : Option X) → option_or (option_or a b) d ≡ option_or a (option_or b d)
or-assoc None b d = refl
or-assoc (Some y) b d = refl

position-cons : {X : Type 0} (p : X → Bool) (y : X) (xs : List X) → position p (y ∷ xs) ≡ (if p y then Some 0 else option_map (λ k. k + 1) (position p xs))
position-cons p y xs = grind (arith, nat_tests)

nothing-left : {X : Type 0} (empty : List X) (o : Option ℕ) → empty ≡ [] → option_and_then (λ k. slice_get empty k) o ≡ None
nothing-left empty None e = refl
nothing-left empty (Some k) e = ap (λ l. slice_get l k) e

next-of : {X : Type 0} (b : Bool) (o : Option ℕ) (q : X) (qs : List X)
    → option_or (if b then Some q else None) (option_and_then (λ k. slice_get qs k) o) ≡ option_and_then (λ k. slice_get (q ∷ qs) k) (if b then Some 0 else option_map (λ k. k + 1) o)
next-of true o q qs = refl
next-of false None q qs = refl
next-of false (Some k) q qs = let e : suc k ≡ k + 1 = omega arith in ap (slice_get (q ∷ qs)) e

in-order-none : (before : Joined) (ns : List (List ℕ)) → in_order_from before ns [] ≡ before
in-order-none before [] = refl
in-order-none before (n ∷ ns) = refl

in-order-at : (before : Joined) (ns : List (List ℕ)) (qs : List x.Connection) (t : List ℕ)
    → in_order_from before ns qs t ≡ option_or (before t) (option_and_then (λ k. slice_get qs k) (position (bytes_eq t) ns))
in-order-at before [] qs t = sym (or-none (before t))
in-order-at before (n ∷ ns) [] t = sym (ap (option_or (before t)) (nothing-left [] (position (bytes_eq t) (n ∷ ns)) refl) ∙ or-none (before t))
in-order-at before (n ∷ ns) (q ∷ qs) t =
    in-order-at (connect before n q) ns qs t
    ∙ ap (λ o. option_or o (option_and_then (λ k. slice_get qs k) (position (bytes_eq t) ns))) (connect-at before n q t)
    ∙ or-assoc (before t) (if bytes_eq t n then Some q else None) (option_and_then (λ k. slice_get qs k) (position (bytes_eq t) ns))
    ∙ ap (option_or (before t)) (next-of (bytes_eq t n) (position (bytes_eq t) ns) q qs ∙ ap (option_and_then (λ k. slice_get (q ∷ qs) k)) (sym (position-cons (bytes_eq t) n ns)))

by-order : (qs : List x.Connection) (b : Bool) (t : List ℕ) (o : Option ℕ) → c.by_name qs ≡ b → b ≡ false → option_and_then (λ k. c.connection_of qs k t) o ≡ option_and_then (λ k. slice_get qs k) o
by-order qs b t None e f = refl
by-order qs b t (Some k) e f = ap (λ z. if z then find (c.is_for t) qs else slice_get qs k) (e ∙ f)

pub in_order-law : (ns : List (List ℕ)) (qs : List x.Connection) → c.by_name qs ≡ false → in_order ns qs ≡ c.named_connection ns qs
in_order-law ns qs h = λ i t. (in-order-at none ns qs t ∙ sym (by-order qs false t (position (bytes_eq t) ns) h refl)) i

-- ---- connections by name

connect-named-at : (before : Joined) (q : x.Connection) (t : List ℕ) (o : Option (List ℕ)) → option_map_or (λ name. connect before name q) o before t ≡ option_or (before t) (if option_map_or (bytes_eq t) o false then Some q else None)
connect-named-at before q t None = sym (or-none (before t))
connect-named-at before q t (Some n) = connect-at before n q t

cons-find : {X : Type 0} (b : Bool) (q : X) (o : Option X) → option_or (if b then Some q else None) o ≡ (if b then Some q else o)
cons-find true q o = refl
cons-find false q o = refl

named-at : (before : Joined) (qs : List x.Connection) (t : List ℕ) → fold connect_named before qs t ≡ option_or (before t) (find (c.is_for t) qs)
named-at before [] t = sym (or-none (before t))
named-at before (q ∷ qs) t =
    named-at (connect_named before q) qs t
    ∙ ap (λ o. option_or o (find (c.is_for t) qs)) (connect-named-at before q t q.name)
    ∙ or-assoc (before t) (if c.is_for t q then Some q else None) (find (c.is_for t) qs)
    ∙ ap (option_or (before t)) (cons-find (c.is_for t q) q (find (c.is_for t) qs))

pub named-law : (qs : List x.Connection) (t : List ℕ) → named qs t ≡ find (c.is_for t) qs
named-law qs t = named-at none qs t

take-over-at : (given before : Joined) (n t : List ℕ) (o : Option x.Connection) → given n ≡ o → option_map_or (connect before n) o before t ≡ option_or (before t) (if bytes_eq t n then given t else None)
take-over-at given before n t None e = sym (absent (bytes_eq t n) refl)
  where
    absent : (b : Bool) → bytes_eq t n ≡ b → option_or (before t) (if b then given t else None) ≡ before t
    absent true f = ap (λ s. option_or (before t) (given s)) (same_name t n f) ∙ ap (option_or (before t)) e ∙ or-none (before t)
    absent false f = or-none (before t)
take-over-at given before n t (Some q) e = connect-at before n q t ∙ present (bytes_eq t n) refl
  where
    present : (b : Bool) → bytes_eq t n ≡ b → option_or (before t) (if b then Some q else None) ≡ option_or (before t) (if b then given t else None)
    present true f = ap (option_or (before t)) (sym e ∙ ap given (sym (same_name t n f)))
    present false f = refl

either : {X : Type 0} (b d : Bool) (o : Option X) → option_or (if b then o else None) (if d then o else None) ≡ (if b || d then o else None)
either true true None = refl
either true true (Some y) = refl
either true false None = refl
either true false (Some y) = refl
either false d o = refl

among-at : (given before : Joined) (ns : List (List ℕ)) (t : List ℕ) → fold (take_over given) before ns t ≡ option_or (before t) (if list_any (bytes_eq t) ns then given t else None)
among-at given before [] t = sym (or-none (before t))
among-at given before (n ∷ ns) t =
    among-at given (take_over given before n) ns t
    ∙ ap (λ o. option_or o (if list_any (bytes_eq t) ns then given t else None)) (take-over-at given before n t (given n) refl)
    ∙ or-assoc (before t) (if bytes_eq t n then given t else None) (if list_any (bytes_eq t) ns then given t else None)
    ∙ ap (option_or (before t)) (either (bytes_eq t n) (list_any (bytes_eq t) ns) (given t))

any-some : {X : Type 0} (p : X → Bool) (xs : List X) → is_some (position p xs) ≡ list_any p xs
any-some p [] = grind (arith, nat_tests)
any-some p (y ∷ xs) = ap is_some (position-cons p y xs) ∙ by (p y) (position p xs) ∙ ap (λ b. p y || b) (any-some p xs)
  where
    by : (b : Bool) (o : Option ℕ) → is_some (if b then Some 0 else option_map (λ k. k + 1) o) ≡ (b || is_some o)
    by true o = refl
    by false None = refl
    by false (Some k) = refl

by-names : (qs : List x.Connection) (t : List ℕ) (o : Option ℕ) → c.by_name qs ≡ true → option_and_then (λ k. c.connection_of qs k t) o ≡ (if is_some o then find (c.is_for t) qs else None)
by-names qs t None e = refl
by-names qs t (Some k) e = ap (λ z. if z then find (c.is_for t) qs else slice_get qs k) e

pub among-law : (ns : List (List ℕ)) (qs : List x.Connection) → c.by_name qs ≡ true → among ns qs ≡ c.named_connection ns qs
among-law ns qs h = λ i t. (
    among-at (named qs) none ns t
    ∙ ap (λ o. if list_any (bytes_eq t) ns then o else None) (named-law qs t)
    ∙ ap (λ b. if b then find (c.is_for t) qs else None) (sym (any-some (bytes_eq t) ns))
    ∙ sym (by-names qs t (position (bytes_eq t) ns) h)) i

-- ---- the turn of the loop over names in order

drop-none : {X : Type 0} (xs : List X) (i : ℕ) → slice_get xs i ≡ None → (drop i xs ≡ []) × (drop (suc i) xs ≡ [])
drop-none [] zero h = (refl, refl)
drop-none [] (suc i) h = (refl, refl)
drop-none (y ∷ xs) zero h = absurd cc
drop-none (y ∷ xs) (suc i) h = drop-none xs i h

step : (table : Joined) (n : List ℕ) (ns : List (List ℕ)) (cs : List Connection) (i : ℕ) (o : Option Connection) → slice_get cs i ≡ o
    → in_order_from (connect_if table n (option_map seen_connection o)) ns (map seen_connection (drop (suc i) cs)) ≡ in_order_from table (n ∷ ns) (map seen_connection (drop i cs))
step table n ns cs i None h =
    let d = drop-none cs i h in
    ap (λ l. in_order_from table ns (map seen_connection l)) d.1 ∙ in-order-none table ns ∙ ap (λ l. in_order_from table (n ∷ ns) (map seen_connection l)) (sym d.0)
step table n ns cs i (Some q) h = ap (λ l. in_order_from table (n ∷ ns) (map seen_connection l)) (sym (drop-some cs i q h))

-- what a look-up by number finds
looked : {X : Type 0} (xs : List X) (i : ℕ) (r : Option (Bor X)) → is_some r ≡ nat_lt i (length xs) → IfSome r (λ y. y.now ≡ get_or xs i y.now) → slice_get xs i ≡ option_map (λ y. y.now) r
looked xs i None e g = slice_get_past xs i (grind (arith, nat_tests))
looked xs i (Some y) e g = slice_get_read xs (length xs) i y.now refl (grind (arith, nat_tests)) g

found-seen : (r : Option (Bor Connection)) → option_map seen_connection (option_map (λ q. q.now) r) ≡ option_map (λ q. seen_connection q.now) r
found-seen None = refl
found-seen (Some q) = refl

-- one more name, with its connection if there is one
pub in_order-turn : (table next all : Joined) (names : List (Bor (List ℕ))) (cs : List Connection) (i : ℕ) (d : Bor (List ℕ)) (r : Option (Bor Connection))
    → i < length names → is_some r ≡ nat_lt i (length cs) → IfSome r (λ q. q.now ≡ get_or cs i q.now)
    → next ≡ connect_if table (get_or names i d).now (option_map (λ q. seen_connection q.now) r)
    → in_order_from table (nows (drop i names)) (map seen_connection (drop i cs)) ≡ all
    → in_order_from next (nows (drop (i + 1) names)) (map seen_connection (drop (i + 1) cs)) ≡ all
in_order-turn table next all names cs i d r l e g h before =
    ap (λ k. in_order_from next (nows (drop k names)) (map seen_connection (drop k cs))) (let p : i + 1 ≡ suc i = omega arith in p)
    ∙ ap (λ t. in_order_from t (nows (drop (suc i) names)) (map seen_connection (drop (suc i) cs))) (h ∙ ap (connect_if table (get_or names i d).now) (sym (found-seen r)))
    ∙ step table (get_or names i d).now (nows (drop (suc i) names)) cs i (option_map (λ q. q.now) r) (looked cs i r e g)
    ∙ ap (λ m. in_order_from table (nows m) (map seen_connection (drop i cs))) (sym (drop-cons names i d l))
    ∙ before

pub ruleset joins = (connect-known, joined-insert, joined-empty)
