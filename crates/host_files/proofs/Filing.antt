-- How a tenant's files are read, one after another.
use Rattle.std.proofs.Common.{◌≡◌, ◌≤◌, ◌<◌, ℕ, ◌+◌, ◌-◌, Bool, false, List, [], ◌∷◌, ◌++◌, map, take, drop, length, refl, sym, ap, ◌∙◌, subst, arith}
use Rattle.std.specs.Prelude.{Option, Some, None, IfSome, IsNone, get_or, min, unwrap_or, is_some, cond, nat_lt}
use Rattle.std.specs.List.{AllByRecursion, IsDistinct, position_or_len}
use Rattle.std.specs.Str.{bytes_eq}
use Rattle.std.proofs.lemmas.List.{take_more, map_push, length-take}
use Rattle.std.proofs.lemmas.List.Sums.{sum_by_more}
use Rattle.host_form.specs.fab_io.specs.declared.store.ReadError.{ReadError}
use Rattle.host_form.specs.fab_io.specs.Outside.{Files, IsTold}
use Rattle.ten_core.specs.vl_base.specs.declared.files.File.{File}
use Rattle.ten_core.specs.vl_base.specs.Files.{number_of}
use Rattle.host_form.specs.host_text.specs.declared.script.FileLine.{FileLine}
use Rattle.host_form.specs.Origins.{AreFilesAt}
use Rattle.host_files.specs.Reading.{Counts, counts_of, IsCause, bytes_of, most_file}
use Rattle.host_files.specs.Steps.{IsAdded, IsFileMissed, AreWithin}
use Rattle.host_files.proofs.Lists.{apart-before, cut-at}
use Rattle.host_files.proofs.Causes.{cause-before}
use Rattle.host_files.proofs.Within.{none-within, next-within}

-- ---- names

all-fail : {X : Type 0} (p : X → Bool) (xs : List X) → AllByRecursion (λ x. p x ≡ false) xs → position_or_len p xs ≡ length xs
all-fail p [] h = refl
all-fail p (x ∷ xs) h = rw h.0 (let e = all-fail p xs h.1 in omega (arith, e))

nowhere : (n m : ℕ) → n ≡ m → is_some (cond (nat_lt n m) (Some n) None) ≡ false
nowhere n m e = grind arith

named-apart : (name : List ℕ) (fs : List File) (ls : List FileLine) → map (λ f. f.name) fs ≡ map (λ l. l.name) ls
    → AllByRecursion (λ l. bytes_eq l.name name ≡ false) ls → AllByRecursion (λ f. bytes_eq f.name name ≡ false) fs
named-apart name [] ls e h = tt
named-apart name (f ∷ fs) [] e h = absurd (cc)
named-apart name (f ∷ fs) (l ∷ ls) e h =
    let same : f.name ≡ l.name = cc in
    let rest : map (λ g. g.name) fs ≡ map (λ k. k.name) ls = cc in
    (ap (λ (x : List ℕ). bytes_eq x name) same ∙ h.0, named-apart name fs ls rest h.1)

-- ---- told files

files-more : (told : Files) (ls : List FileLine) (fs : List File) (l : FileLine) (f : File) → AreFilesAt told ls fs → f.name ≡ l.name → told l.path ≡ Some f.bytes
    → AreFilesAt told (ls ++ l ∷ []) (fs ++ f ∷ [])
files-more told [] [] l f h n b = (n, b, tt)
files-more told [] (g ∷ gs) l f h n b = absurd h
files-more told (k ∷ ks) [] l f h n b = absurd h
files-more told (k ∷ ks) (g ∷ gs) l f h n b = (h.0, h.1, files-more told ks gs l f h.2 n b)

-- ---- the first n lines

-- the files of the first n lines are read, and a room is left of what was there at the start
pub record AreReadTo (told : Option Files) (lines : List FileLine) (n : ℕ) (set : List File) (start room : ℕ) : Type 0 where
  pub named : map (λ f. f.name) set ≡ map (λ l. l.name) (take n lines)
  pub files : IfSome told (λ files. AreFilesAt files (take n lines) set)
  pub left : IfSome told (λ files. room ≡ start - bytes_of files (take n lines))
  pub within : IfSome told (λ files. AreWithin files start (take n lines))

pub none-read : (told : Option Files) (lines : List FileLine) (start : ℕ) → AreReadTo told lines 0 [] start start
none-read None lines start = record { named = refl; files = tt; left = tt; within = tt }
none-read (Some files) lines start = record { named = refl; files = tt; left = omega arith; within = none-within files start }

length-same : (fs : List File) (ls : List FileLine) → map (λ f. f.name) fs ≡ map (λ l. l.name) ls → length fs ≡ length ls
length-same [] [] e = refl
length-same [] (l ∷ ls) e = absurd (cc)
length-same (f ∷ fs) [] e = absurd (cc)
length-same (f ∷ fs) (l ∷ ls) e =
    let rest : map (λ g. g.name) fs ≡ map (λ k. k.name) ls = cc in
    let h = length-same fs ls rest in omega (arith, h)

-- the next line has another name
next-new : (told : Option Files) (lines : List FileLine) (n : ℕ) (d : FileLine) (set : List File) (start room : ℕ) → n < length lines
    → IsDistinct (λ f g. bytes_eq f.name g.name) lines → AreReadTo told lines n set start room → IsNone (number_of set (get_or lines n d).name)
next-new told lines n d set start room below h r =
    let name = (get_or lines n d).name in
    let apart = named-apart name set (take n lines) r.named (apart-before (λ f g. bytes_eq f.name g.name) lines n d below h) in
    nowhere (position_or_len (λ f. bytes_eq f.name name) set) (length set) (all-fail (λ f. bytes_eq f.name name) set apart)

pub fewer : (told : Option Files) (lines : List FileLine) (n : ℕ) (set : List File) (start room : ℕ) → n < length lines → length lines ≤ 16
    → AreReadTo told lines n set start room → length set < 16
fewer told lines n set start room below few r =
    let e = length-same set (take n lines) r.named in
    let t = length-take n lines in
    omega (arith, e, t, below, few)

added-files : (told : Option Files) (lines : List FileLine) (n : ℕ) (d : FileLine) (set : List File) (bytes : List ℕ) → n < length lines
    → IsTold told (get_or lines n d).path bytes → IfSome told (λ files. AreFilesAt files (take n lines) set)
    → IfSome told (λ files. AreFilesAt files (take (n + 1) lines) (set ++ record { name = (get_or lines n d).name; bytes = bytes } ∷ []))
added-files None lines n d set bytes below t h = tt
added-files (Some files) lines n d set bytes below t h =
    rw (take_more lines n d below) (files-more files (take n lines) set (get_or lines n d) (record { name = (get_or lines n d).name; bytes = bytes }) h refl t)

added-room : (told : Option Files) (lines : List FileLine) (n : ℕ) (d : FileLine) (bytes : List ℕ) (start old new : ℕ) → n < length lines
    → IsTold told (get_or lines n d).path bytes → new + length bytes ≡ old → IfSome told (λ files. old ≡ start - bytes_of files (take n lines))
    → IfSome told (λ files. new ≡ start - bytes_of files (take (n + 1) lines))
added-room None lines n d bytes start old new below t e h = tt
added-room (Some files) lines n d bytes start old new below t e h =
    let more = sum_by_more (λ f. length (unwrap_or (files f.path) [])) lines n d below in
    let here : length (unwrap_or (files (get_or lines n d).path) []) ≡ length bytes = ap (λ (o : Option (List ℕ)). length (unwrap_or o [])) t in
    omega (arith, more, here, e, h)

one-more : (told : Option Files) (lines : List FileLine) (n : ℕ) (d : FileLine) (old new : List File) (start before after : ℕ) → n < length lines
    → AreReadTo told lines n old start before → IsAdded told (get_or lines n d) old new before after → AreReadTo told lines (n + 1) new start after
one-more told lines n d old new start before after below r a =
    let f : File = record { name = (get_or lines n d).name; bytes = a.bytes } in
    let named : map (λ g. g.name) (old ++ f ∷ []) ≡ map (λ l. l.name) (take (n + 1) lines) =
    map_push (λ g. g.name) old f ∙ ap (λ (names : List (List ℕ)). names ++ (get_or lines n d).name ∷ []) r.named
    ∙ sym (map_push (λ l. l.name) (take n lines) (get_or lines n d)) ∙ ap (map (λ l. l.name)) (sym (take_more lines n d below)) in
    rw a.is (record {
      named = named;
      files = added-files told lines n d old a.bytes below a.told_at r.files;
      left = added-room told lines n d a.bytes start before after below a.told_at a.room r.left;
      within = next-within told lines n d a.bytes start before below a.told_at a.short r.left r.within;
    })

-- ---- a file that is missed

limit-of : (told : Option Files) (start room : ℕ) (lines : List FileLine) → IfSome told (λ files. room ≡ start - bytes_of files lines)
    → IfSome told (λ files. min most_file room ≡ min most_file (start - bytes_of files lines))
limit-of None start room lines h = tt
limit-of (Some files) start room lines h = ap (min most_file) h

file-missed : (told : Option Files) (old new : Counts) (lines : List FileLine) (n : ℕ) (d : FileLine) (set : List File) (start room : ℕ) (path : List ℕ) (why : ReadError)
    → n < length lines → AreReadTo told lines n set start room → path ≡ (get_or lines n d).path → IsCause told old new path (min most_file room) why
    → IsFileMissed told old new start lines path why
file-missed told old new lines n d set start room path why below r e c = record {
  before = take n lines;
  file = get_or lines n d;
  after = drop (n + 1) lines;
  is = cut-at lines n d below;
  asked = e;
  most = min most_file room;
  limit = limit-of told start room (take n lines) r.left;
  cause = c;
}

-- ---- what a turn of the loop knows: its line x

pub new-name : (told : Option Files) (lines : List FileLine) (n : ℕ) (x : FileLine) (set : List File) (start room : ℕ) → n < length lines → x ≡ get_or lines n x
    → IsDistinct (λ f g. bytes_eq f.name g.name) lines → AreReadTo told lines n set start room → IsNone (number_of set x.name)
new-name told lines n x set start room below is h r =
    subst (λ (y : FileLine). IsNone (number_of set y.name)) (sym is) (next-new told lines n x set start room below h r)

pub next-read : (told told' : Option Files) (lines : List FileLine) (n : ℕ) (x : FileLine) (old new : List File) (start before after : ℕ) → n < length lines → x ≡ get_or lines n x
    → told' ≡ told → AreReadTo told lines n old start before → IsAdded told' x old new before after → AreReadTo told lines (n + 1) new start after
next-read told told' lines n x old new start before after below is same r a =
    let b = subst (λ (t : Option Files). IsAdded t x old new before after) same a in
    one-more told lines n x old new start before after below r (subst (λ (y : FileLine). IsAdded told y old new before after) is b)

pub next-missed : (told told' : Option Files) (f f' a a' : ℕ) (new : Counts) (lines : List FileLine) (n : ℕ) (x : FileLine) (set : List File) (start room : ℕ) (path : List ℕ) (why : ReadError)
    → n < length lines → x ≡ get_or lines n x → told' ≡ told → f ≤ f' → a ≤ a' → AreReadTo told lines n set start room
    → (path ≡ x.path) × IsCause told' (counts_of f' a') new path (min most_file room) why → IsFileMissed told (counts_of f a) new start lines path why
next-missed told told' f f' a a' new lines n x set start room path why below is same g h r m =
    file-missed told (counts_of f a) new lines n x set start room path why below r (subst (λ (y : FileLine). path ≡ y.path) is m.0)
    (cause-before told told' f f' a a' new path _ why same g h m.1)
