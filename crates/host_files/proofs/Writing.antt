-- Files written one after the other.
use Rattle.std.proofs.Common.{◌≡◌, ℕ, zero, suc, List, [], ◌∷◌, ◌++◌, length, take, drop, refl, sym, ap, ◌∙◌, subst, append_assoc}
use Rattle.std.specs.Prelude.{Option, Some, None, option_map}
use Rattle.host_form.specs.fab_io.specs.declared.store.WriteError.{WriteError}
use Rattle.host_form.specs.fab_io.specs.declared.store.WriteError.TheVariants.{Failed, Memory}
use Rattle.host_form.specs.fab_io.specs.Outside.{Files, with_file, ChangesOnly}
use Rattle.ten_core.specs.vl_design.specs.Snapshots.{Saved}
use Rattle.host_form.specs.Saves.{path_of, with_saves}
use Rattle.ten_core.specs.ten_plan.specs.Written.{bytes_of}
use Rattle.host_files.specs.Writes.{Write, writes_in, after_writes, LeavesFront, LosesOne}

-- ---- lists

take-front : {A : Type 0} (xs ys : List A) → take (length xs) (xs ++ ys) ≡ xs
take-front [] ys = refl
take-front (x ∷ xs) ys = ap (λ (zs : List _). x ∷ zs) (take-front xs ys)

split : {A : Type 0} (xs : List A) (n : ℕ) → xs ≡ take n xs ++ drop n xs
split [] zero = refl
split [] (suc n) = refl
split (x ∷ xs) zero = refl
split (x ∷ xs) (suc n) = ap (λ (zs : List _). x ∷ zs) (split xs n)

-- ---- writes

-- that of a tenant's snapshot
abbrev pub write_of : List ℕ → Saved → Write
write_of tenant s = record { path = path_of tenant s.name; bytes = bytes_of s.snapshot }

pub with_none : (told : Option Files) → option_map (after_writes []) told ≡ told
with_none None = refl
with_none (Some files) = refl

pub writes-append : (ws vs : List Write) (files : Files) → after_writes (ws ++ vs) files ≡ after_writes vs (after_writes ws files)
writes-append [] vs files = refl
writes-append (w ∷ ws) vs files = writes-append ws vs (with_file w.path w.bytes files)

pub writes-said : (tenant : List ℕ) (saved : List Saved) (files : Files) → after_writes (writes_in tenant saved) files ≡ with_saves tenant saved files
writes-said tenant [] files = refl
writes-said tenant (s ∷ saved) files = writes-said tenant saved (with_file (path_of tenant s.name) (bytes_of s.snapshot) files)

abbrev pub behind : List Write → Option Files → Option Files
behind ws told = option_map (after_writes ws) told

behind-append : (ws vs : List Write) (told : Option Files) → behind (ws ++ vs) told ≡ behind vs (behind ws told)
behind-append ws vs None = refl
behind-append ws vs (Some files) = ap Some (writes-append ws vs files)

-- those before the rest are written
pub record AreWritten (all rest : List Write) (told now : Option Files) : Type 0 where
  pub done : List Write
  pub split : all ≡ done ++ rest
  pub is : now ≡ behind done told

pub more : (all ws rest : List Write) (told now after : Option Files) → AreWritten all (ws ++ rest) told now → after ≡ behind ws now → AreWritten all rest told after
more all ws rest told now after a e = record {
  done = a.done ++ ws;
  split = a.split ∙ sym (append_assoc a.done ws rest);
  is = e ∙ ap (behind ws) a.is ∙ sym (behind-append a.done ws told);
}

-- a front of those that are left is a front of all
take-all : (all front left : List Write) (told : Option Files) → all ≡ front ++ left → behind (take (length front) all) told ≡ behind front told
take-all all front left told e = ap (λ (ws : List Write). behind ws told) (ap (take (length front)) e ∙ take-front front left)

joined : (done ws rest front left : List Write) → ws ≡ front ++ left → done ++ (ws ++ rest) ≡ (done ++ front) ++ (left ++ rest)
joined done ws rest front left e =
    ap (λ (vs : List Write). done ++ (vs ++ rest)) e ∙ ap (λ (vs : List Write). done ++ vs) (append_assoc front left rest) ∙ sym (append_assoc done front (left ++ rest))

pub lost-front : (all ws rest : List Write) (told now after : Option Files) → AreWritten all (ws ++ rest) told now → LosesOne ws now after → LosesOne all told after
lost-front all ws rest told now after a l = record {
  done = a.done ++ l.done;
  lost = l.lost;
  behind = l.behind ++ rest;
  are = a.split ∙ joined a.done ws rest l.done (l.lost ∷ l.behind) l.are;
  files = subst (λ (x : Option Files). ChangesOnly x after l.lost.path) (ap (behind l.done) a.is ∙ sym (behind-append a.done l.done told)) l.files;
}

pub front : (all ws rest : List Write) (told now after : Option Files) → AreWritten all (ws ++ rest) told now → LeavesFront ws now after → LeavesFront all told after
front all ws rest told now after a (LeavesFront.written n e) =
    let first = a.done ++ take n ws in
    let parts : all ≡ first ++ (drop n ws ++ rest) = a.split ∙ joined a.done ws rest (take n ws) (drop n ws) (split ws n) in
    LeavesFront.written (length first)
    (e ∙ ap (behind (take n ws)) a.is ∙ sym (behind-append a.done (take n ws) told) ∙ sym (take-all all first (drop n ws ++ rest) told parts))
front all ws rest told now after a (LeavesFront.failed l) = LeavesFront.failed (lost-front all ws rest told now after a l)

-- one write that came to nothing
pub one-lost : (w : Write) (now after : Option Files) → ChangesOnly now after w.path → LosesOne (w ∷ []) now after
one-lost w now after changes = record {
  done = [];
  lost = w;
  behind = [];
  are = refl;
  files = subst (λ (x : Option Files). ChangesOnly x after w.path) (sym (with_none now)) changes;
}

pub unwritten : (w : Write) (now after : Option Files) (e : WriteError) → (e ≡ Failed → ChangesOnly now after w.path) → (e ≡ Memory → after ≡ now) → LeavesFront (w ∷ []) now after
unwritten w now after Failed other same = LeavesFront.failed (one-lost w now after (other refl))
unwritten w now after Memory other same = LeavesFront.written 0 (same refl ∙ sym (with_none now))

pub one-written : (w : Write) (now after : Option Files) → after ≡ option_map (with_file w.path w.bytes) now → after ≡ behind (w ∷ []) now
one-written w None after e = e
one-written w (Some files) after e = e
