-- What the private functions of the crate tell each other. No contract of a public function names any of it.
use Rattle.std.specs.Prelude.{ℕ, ◌+◌, ◌*◌, ◌/◌, ◌%◌, ◌≤◌, ◌<◌, ◌≡◌, List, [], ◌∷◌, map, Bool, true, cond, not, ◌&&◌, ◌||◌, length, get_or, take, drop, set, eqb, ltb, leb, Option, Some, None, Result, Ok, Err}
use denote.Ref.{Bor}
use Rattle.book.specs.Reader.{Got, got, bad, Reader, ◌>>◌, give, begun, opened}
use Rattle.book.specs.Book.{Span, Ends, Lightpath, Alternative, RouteBook, most_for_one, most_with_alternatives, well_formed, span_at, ends_of, lightpath_of, count, different}
use Rattle.book.specs.Format.{EN, route, lp, al, nothing}
use Rattle.book.specs.Bits.{has, put, put_if, span_word}
use Rattle.book.specs.Memory.{book_of, laid, fault_number}
use Rattle.std.specs.List.{sum_by}
use Rattle.book.specs.declared.Book.{Book}
use Rattle.book.specs.declared.refusal.Refusal.{Refusal}
use Rattle.book.specs.declared.place.Place.{Place}
use Rattle.book.specs.declared.fill.Filled.{Filled}
use Rattle.book.specs.declared.row.Words.{Words}
use Rattle.book.specs.declared.row.Rows.{Rows}
use Rattle.book.specs.declared.counts.Counts.{Counts}
use Rattle.book.specs.declared.record.Span.{Span as ReadSpan}
use Rattle.book.specs.declared.record.Ends.{Ends as ReadEnds}
use Rattle.book.specs.declared.record.Lightpath.{Lightpath as ReadLightpath}
use Rattle.book.specs.declared.record.Alternative.{Alternative as ReadAlternative}
use Rattle.book.specs.declared.record.Tally.{Tally}

-- the reading g of the book s gave the value a, and what is due next is at `next`
pub record Came {A : Type 0} (s : List ℕ) (g : Got A) (a : A) (next : ℕ) : Type 0 where
  pub is : g ≡ got a (drop next s)
  pub within : next ≤ length s

-- it was refused as r says
pub record Halted {A : Type 0} (s : List ℕ) (g : Got A) (r : Refusal) : Type 0 where
  pub is : g ≡ bad (fault_number r.fault) (drop r.place s)
  pub within : r.place ≤ length s

-- what the answer of a function that reads the record at the place `at`, which has t bytes, says of the reader q of such a record
abbrev pub Reads : {A V : Type 0} → Result V Refusal → List ℕ → ℕ → Reader A → ℕ → (V → A) → Type 0
Reads (Ok v) s at q t f = Came s (q (drop at s) (drop at s)) (f v) (at + t)
Reads (Err r) s at q t f = Halted s (q (drop at s) (drop at s)) r

-- the counts and the span that such an answer holds
abbrev pub counts_of : Counts → List ℕ
counts_of c = c.nodes ∷ c.spans ∷ c.lightpaths ∷ c.alternatives ∷ []

abbrev pub span_of : ReadSpan → Span
span_of x = record { left = x.left; right = x.right; limit = x.limit }

-- what the code relies on in a book whose spans are read: their ends, which stand in two arrays, are nodes
pub record SpansHeld (b : Book) : Type 0 where
  pub nodes_few : b.nodes ≤ 64
  pub spans_few : b.spans ≤ 128
  pub left_low : (x : ℕ) → get_or b.left x 0 < 64
  pub right_low : (x : ℕ) → get_or b.right x 0 < 64

-- the walk over such arrays, with the nodes met as a set: where span x leads from p, and whether it may be taken
abbrev pub far_in : List ℕ → List ℕ → ℕ → ℕ → ℕ
far_in left right p x = cond (eqb (get_or left x 0) p) (get_or right x 0) (get_or left x 0)

abbrev pub goes_in : List ℕ → List ℕ → ℕ → ℕ → ℕ → Bool
goes_in left right met p x = (eqb (get_or left x 0) p || eqb (get_or right x 0) p) && not (has met (far_in left right p x))

abbrev pub hop_of : List ℕ → List ℕ → ℕ → ℕ → ℕ → Option ℕ
hop_of left right met p x = cond (goes_in left right met p x) (Some (far_in left right p x)) None

-- where such a walk fails: at span j, which is next; or at the last one passed, where it is over and has not come to t
unfoldable pub stray_in : List ℕ → List ℕ → ℕ → ℕ → ℕ → ℕ → List ℕ → ℕ → Option ℕ
stray_in left right met p last j [] t = cond (eqb p t) None (Some last)
stray_in left right met p last j (x ∷ xs) t =
    let q = far_in left right p x in
    let r = stray_in left right (put met q) q j (j + 1) xs t in cond (goes_in left right met p x) r (Some j)

-- no further than the end of a route of n spans
abbrev pub Within : ℕ → Option ℕ → Type 0
Within n None = Unit {0}
Within n (Some i) = i ≤ n

-- the spans of a book, in arrays
pub record SpansIn (sps : List Span) (b : Book) : Type 0 where
  pub counted : b.spans ≡ length sps
  pub is_left : (x : ℕ) → get_or b.left x 0 ≡ (span_at sps x).left
  pub is_right : (x : ℕ) → get_or b.right x 0 ≡ (span_at sps x).right

-- the ends of a lightpath; and two different stations, by the set of stations among so many nodes
abbrev pub ends_in : ReadEnds → Ends
ends_in e = record { from = e.from; to = e.to }

abbrev pub ends_fit : ℕ → ℕ → ℕ → ℕ → Bool
ends_fit nodes stations a b = ltb a nodes && (ltb b nodes && (has stations a && (has stations b && not (eqb a b))))

-- what the answer of a function that reads a route between the ends e says: the route has `len` spans and begins at `start`, in the record at `at`
pub record RouteCame (r s : List ℕ) (at start len : ℕ) (e : Ends) (b : Book) : Type 0 where
  pub short : length r ≤ 16
  pub within : start + length r ≤ length s
  pub told : (sps : List Span) → SpansIn sps b → route sps e len (drop at s) (drop start s) ≡ got (record { spans = r }) (drop (start + length r) s)

abbrev pub RouteRead : Result (Bor (List ℕ)) Refusal → List ℕ → ℕ → ℕ → ℕ → Ends → Book → Type 0
RouteRead (Ok r) s at start len e b = RouteCame r.now s at start len e b
RouteRead (Err r) s at start len e b = (sps : List Span) → SpansIn sps b → Halted s (route sps e len (drop at s) (drop start s)) r

-- a book of which some kinds of records are read
abbrev pub partly : List Bool → List Span → List Lightpath → List Alternative → RouteBook
partly ns sps lps als = record { nodes = ns; spans = sps; lightpaths = lps; alternatives = als }

-- the same of an LP record at `at`, while b is a book whose spans are read
abbrev pub lightpath_in : ReadLightpath → Lightpath
lightpath_in p = record { ends = ends_in p.ends; route = record { spans = p.route.now } }

pub record LpCame (p : ReadLightpath) (s : List ℕ) (at : ℕ) (b : Book) : Type 0 where
  pub short : length p.route.now ≤ 16
  pub within : at + 5 + length p.route.now ≤ length s
  pub told : (ns : List Bool) (sps : List Span) → b ≡ book_of (partly ns sps [] [])
      → lp ns sps (drop at s) (drop at s) ≡ got (lightpath_in p) (drop (at + 5 + length p.route.now) s)

abbrev pub LpRead : Result ReadLightpath Refusal → List ℕ → ℕ → Book → Type 0
LpRead (Ok p) s at b = LpCame p s at b
LpRead (Err r) s at b = (ns : List Bool) (sps : List Span) → b ≡ book_of (partly ns sps [] []) → Halted s (lp ns sps (drop at s) (drop at s)) r

-- what the code relies on in a book whose lightpaths are read too: so are theirs
pub record LightpathsHeld (b : Book) : Type 0 where
  pub spans : SpansHeld b
  pub lightpaths_few : b.lightpaths ≤ 96
  pub from_low : (k : ℕ) → get_or b.from k 0 < 64
  pub to_low : (k : ℕ) → get_or b.to k 0 < 64

-- what a tally says of the lightpaths of the alternatives before, the last first: since these never fall, those of the last stand together
abbrev pub held_for : ℕ → ℕ → ℕ → ℕ
held_for last same k = cond (eqb k last) same 0

pub record TallyOf (before : List ℕ) (last same many : ℕ) : Type 0 where
  pub is_last : last ≡ get_or before 0 0
  pub is_same : (k : ℕ) → last ≤ k → count k before ≡ held_for last same k
  pub is_different : many ≡ different before

abbrev pub follows_in : ℕ → ℕ → ℕ → ℕ → ℕ → Bool
follows_in last same many lightpaths k =
    ltb k lightpaths && leb last k && (ltb 0 (held_for last same k) || ltb many most_with_alternatives) && ltb (held_for last same k) most_for_one

-- a tally with one alternative of lightpath k more
abbrev pub tally_with : Tally → ℕ → Tally
tally_with t k = record { last = k; same = held_for t.last t.same k + 1; different = t.different + cond (eqb (held_for t.last t.same k) 0) 1 0 }

-- the same of an AL record at `at`, while b is a book whose lightpaths are read
abbrev pub alternative_in : ReadAlternative → Alternative
alternative_in a = record { lightpath = a.lightpath; route = record { spans = a.route.now } }

pub record AlCame (a : ReadAlternative) (s : List ℕ) (at : ℕ) (t : Tally) (b : Book) : Type 0 where
  pub short : length a.route.now ≤ 16
  pub within : at + 4 + length a.route.now ≤ length s
  pub risen : t.last ≤ a.lightpath
  pub told : (ns : List Bool) (sps : List Span) (lps : List Lightpath) (before : List Alternative) → b ≡ book_of (partly ns sps lps []) → TallyOf (map lightpath_of before) t.last t.same t.different
      → al sps (map ends_of lps) before (drop at s) (drop at s) ≡ got (alternative_in a) (drop (at + 4 + length a.route.now) s)

abbrev pub AlRead : Result ReadAlternative Refusal → List ℕ → ℕ → Tally → Book → Type 0
AlRead (Ok a) s at t b = AlCame a s at t b
AlRead (Err r) s at t b = (ns : List Bool) (sps : List Span) (lps : List Lightpath) (before : List Alternative) → b ≡ book_of (partly ns sps lps []) → TallyOf (map lightpath_of before) t.last t.same t.different
    → Halted s (al sps (map ends_of lps) before (drop at s) (drop at s)) r

-- the reader of `book` after the last AL record
abbrev pub from_end : RouteBook → Reader RouteBook
from_end m = do
  begun (opened EN 0)
  begun nothing
  give m

-- what the answer of a function that reads the end of the book says
abbrev pub EndRead : Result (Unit {0}) Refusal → List ℕ → ℕ → Type 0
EndRead (Ok v) s at = (m : RouteBook) → from_end m s (drop at s) ≡ got m (drop (at + 2) s)
EndRead (Err r) s at = (m : RouteBook) → Halted s (from_end m s (drop at s)) r

-- the spans of a route as two words, and one span more in them
abbrev pub words_of : List ℕ → Words
words_of r = record { low = span_word 0 r; high = span_word 1 r }

abbrev pub words_into : ℕ → ℕ → ℕ → Words
words_into low high x = record { low = put_if (eqb (x / 64) 0) low (x % 64); high = put_if (eqb (x / 64) 1) high (x % 64) }

-- rows with the route r in row k
abbrev pub with_row : Rows → ℕ → List ℕ → Rows
with_row x k r = record { len = set x.len k (length r); route = laid x.route (16 * k) r; low = set x.low k (span_word 0 r); high = set x.high k (span_word 1 r) }

-- what the answer of a function that reads all records of a kind, from the place p on, says of their reader q: the place of what is due next, in the same bytes, and a book that holds them
pub record Reached {A : Type 0} (s : List ℕ) (g : Got A) (holds : A → Book → Type 0) (f : Filled) : Type 0 where
  pub value : A
  pub same : f.next.s.now ≡ s
  pub is : g ≡ got value (drop f.next.at s)
  pub held : holds value f.book

abbrev pub Told : {A : Type 0} → Result Filled Refusal → Place → Reader A → (A → Book → Type 0) → Type 0
Told (Ok f) p q holds = Reached p.s.now (q p.s.now (drop p.at p.s.now)) holds f
Told (Err r) p q holds = Halted p.s.now (q p.s.now (drop p.at p.s.now)) r

-- the book b holds m; and m is what was read so far
abbrev pub HoldsBook : RouteBook → Book → Type 0
HoldsBook m b = b ≡ book_of m

abbrev pub HoldsNodes : List Bool → Book → Type 0
HoldsNodes ns = HoldsBook (partly ns [] [] [])

abbrev pub HoldsSpans : List Bool → List Span → Book → Type 0
HoldsSpans ns sps = HoldsBook (partly ns sps [] [])

abbrev pub HoldsLightpaths : List Bool → List Span → List Lightpath → Book → Type 0
HoldsLightpaths ns sps lps = HoldsBook (partly ns sps lps [])

abbrev pub HoldsAll : List Bool → List Span → List Lightpath → List Alternative → Book → Type 0
HoldsAll ns sps lps als = HoldsBook (partly ns sps lps als)

-- b holds a well-formed book
pub record Held (b : Book) : Type 0 where
  pub book : RouteBook
  pub is : b ≡ book_of book
  pub fits : well_formed book ≡ true

-- how many bytes the LP records of a book take
abbrev pub lightpaths_len : Book → ℕ
lightpaths_len b = sum_by (λ len. 5 + len) (take b.lightpaths b.len)
