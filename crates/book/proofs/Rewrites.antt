-- A book with other lightpaths differs from the old one only in its LP records: what stands first and behind them is copied as it stands.
-- The bytes before them are counted from the numbers of nodes and spans, whose records all have one width.
use Prim.Native.Nat.{ℕ, ◌+◌, ◌-◌, ◌*◌, ◌≤◌, ◌<◌}
use mathlib.Core.Path.{◌≡◌, refl, sym, ap, subst, ◌∙◌}
use mathlib.Core.List.{List, [], ◌∷◌, ◌++◌, append_assoc}
use mathlib.Core.Bool.{Bool, true, false, cond}
use native.Mathlib.Omega.{arith}
use native.Mathlib.Nat.{mul-zero, mul-suc}
use lib.ListN.{length, take, drop, length-append}
use lib.Seq.{take_at, drop_at}
use lib.Dec.{ltb}
use borrow.Author.Tests.{le-leb, lt-leb}
use Rattle.std.specs.Prelude.{Result, Ok, Err}
use Rattle.book.specs.declared.Book.{Book}
use Rattle.book.specs.declared.refusal.Refusal.{Refusal}
use Rattle.book.specs.Book.{RouteBook, well_formed}
use Rattle.book.specs.Format.{Reading, good, refused, reading, bytes_of, hd_bytes, nd_bytes, sp_bytes, lp_bytes, al_bytes, en_bytes, encode}
use Rattle.book.specs.Memory.{book_of, laid, refusal, shown}
use Rattle.book.specs.Choice.{sizes, choices, digits, route_by, chosen}
use Rattle.book.specs.Writing.{fitted_of, chosen_of, writing, written_of, buffer}
use Rattle.book.specs.Inside.{Held, lightpaths_len}
use Rattle.book.proofs.Readers.{Bytes}
use Rattle.book.proofs.Longest.{longest}
use Rattle.book.proofs.Laid.{laid_behind, laid_first}
use Rattle.book.proofs.Chosen.{length_rerouted, choice_fits}
use Rattle.book.proofs.Routes.{part}
use Rattle.book.proofs.Writers.{lightpaths_long}
use Rattle.book.proofs.Written.{ReadAs, reply_read}

-- records of w bytes each
bytes_long : {A : Type 0} (enc : A → List ℕ) (w : ℕ) → ((a : A) → length (enc a) ≡ w) → (l : List A) → length (bytes_of enc l) ≡ w * length l
unfolding bytes_of
bytes_long enc w h [] = omega (arith, mul-zero w)
bytes_long enc w h (a ∷ l) = length-append (enc a) (bytes_of enc l) ∙ omega (arith, h a, bytes_long enc w h l, mul-suc w (length l))

-- what stands before the LP records, and behind them
module _ (m : RouteBook) where
  abbrev front : List ℕ
  front = hd_bytes (length m.nodes) (length m.spans) (length m.lightpaths) (length m.alternatives) ++ (bytes_of nd_bytes m.nodes ++ bytes_of sp_bytes m.spans)

  abbrev back : List ℕ
  back = bytes_of al_bytes m.alternatives ++ en_bytes

  encode_cut : encode m ≡ front ++ (bytes_of lp_bytes m.lightpaths ++ back)
  unfolding encode
  encode_cut = rw (append_assoc (bytes_of nd_bytes m.nodes) (bytes_of sp_bytes m.spans) (bytes_of lp_bytes m.lightpaths ++ back))

  front_long : length front ≡ 6 + 3 * length m.nodes + 5 * length m.spans
  front_long = omega (
    arith,
    length-append (bytes_of nd_bytes m.nodes) (bytes_of sp_bytes m.spans),
    bytes_long nd_bytes 3 (λ n. refl) m.nodes,
    bytes_long sp_bytes 5 (λ x. refl) m.spans,
  )

  encode_long : length (encode m) ≡ length front + length (bytes_of lp_bytes m.lightpaths) + length back
  encode_long = ap length encode_cut ∙ length-append front (bytes_of lp_bytes m.lightpaths ++ back) ∙ omega (arith, length-append (bytes_of lp_bytes m.lightpaths) back)

-- `old` holds the good book that s reads as, and `new` holds its choice n, which is there
pub record Rewriting (s : List ℕ) (n : ℕ) (old new : Book) : Type 0 where
  pub book : RouteBook
  pub read : ReadAs s old book
  pub new_is : new ≡ book_of (chosen book n)
  pub new_fits : well_formed (chosen book n) ≡ true
  pub asked : chosen_of (reading s) n ≡ good (chosen book n)

pub rewriting : (s : List ℕ) (n : ℕ) {k : ℕ} {old new : Book} → k ≡ n → Bytes s → ◌≡◌ {A = Result Book Refusal} (Ok old) (shown (reading s))
    → ((m : RouteBook) → old ≡ book_of m → well_formed m ≡ true → ◌≡◌ {A = Result Book Refusal} (Ok new) (shown (chosen_of (good m) k))) → Rewriting s n old new
rewriting s n {k} {old} {new} same h e told =
    let g = reply_read s h e in
    let z = go g.book (ltb n (choices g.book)) (subst (λ (i : ℕ). ◌≡◌ {A = Result Book Refusal} (Ok new) (shown (chosen_of (good g.book) i))) same (told g.book g.is.held g.is.fits)) in
    record { book = g.book; read = g.is; new_is = z.0; new_fits = choice_fits g.book n g.is.fits; asked = ap (λ (x : Reading). chosen_of x n) g.reads ∙ z.1 }
  where
    go : (m : RouteBook) (t : Bool) → ◌≡◌ {A = Result Book Refusal} (Ok new) (shown (cond t (good (chosen m n)) (refused 12 0)))
        → (new ≡ book_of (chosen m n)) × (cond t (good (chosen m n)) (refused 12 0) ≡ good (chosen m n))
    go m true q = (cc, refl)
    go m false q = absurd (cc)

pub new_held : {s : List ℕ} {n : ℕ} {old new : Book} → Rewriting s n old new → Held new
new_held {n = n} h = record { book = chosen h.book n; is = h.new_is; fits = h.new_fits }

pub refused_on : (g : Reading) (d : List ℕ) {r : Refusal} → ◌≡◌ {A = Result Book Refusal} (Err r) (shown g) → (Err r ≡ written_of (fitted_of (length d) g)) × (d ≡ buffer (fitted_of (length d) g) d)
refused_on (good m) d e = absurd (cc)
refused_on (refused k p) d {r} e = let same : r ≡ refusal k p = cc in (ap Err same, refl)

-- what the code has: the LP records of the old book take x bytes, those of the new one y, and `rest` comes after the old ones
module _ {s : List ℕ} {n : ℕ} {old new : Book} (h : Rewriting s n old new) where
  abbrev first : ℕ
  first = 6 + 3 * old.nodes + 5 * old.spans

  first_is : first ≡ length (front h.book)
  first_is = ap (λ (b : Book). 6 + 3 * b.nodes + 5 * b.spans) h.read.held ∙ sym (front_long h.book)

  abbrev records : List ℕ
  records = bytes_of lp_bytes (chosen h.book n).lightpaths

  abbrev written : List ℕ
  written = encode (chosen h.book n)

  front_copied : take first s ≡ front h.book
  front_copied = ap (take first) (h.read.written ∙ encode_cut h.book) ∙ take_at (front h.book) _ first (sym first_is)

  front_same : front (chosen h.book n) ≡ front h.book
  front_same = rw (length_rerouted (route_by h.book (digits (sizes h.book) n)) 0 h.book.lightpaths)

  module _ {x : ℕ} (is_x : x ≡ lightpaths_len old) where
    old_records : x ≡ length (bytes_of lp_bytes h.book.lightpaths)
    old_records = is_x ∙ ap lightpaths_len h.read.held ∙ lightpaths_long h.book

    pub old_fit : first + x ≤ length s
    old_fit = omega (arith, first_is, old_records, encode_long h.book, ap length h.read.written)

    pub old_low : first + x ≤ 3976
    old_low = omega (arith, old_fit, ap length h.read.written, longest h.book h.read.fits)

    abbrev rest : List ℕ
    rest = take (length s - (first + x)) (drop (first + x) s)

    rest_copied : rest ≡ back h.book
    rest_copied =
        let m = h.book in
        let cut : s ≡ (front m ++ bytes_of lp_bytes m.lightpaths) ++ back m = h.read.written ∙ encode_cut m ∙ sym (append_assoc (front m) (bytes_of lp_bytes m.lightpaths) (back m)) in
        let long : length (front m ++ bytes_of lp_bytes m.lightpaths) ≡ first + x = length-append (front m) (bytes_of lp_bytes m.lightpaths) ∙ omega (arith, first_is, old_records) in
        part s (first + x) ∙ ap (drop (first + x)) cut ∙ drop_at (front m ++ bytes_of lp_bytes m.lightpaths) (back m) (first + x) long

    joined : (take first s ++ records) ++ rest ≡ written
    joined =
        rw (front_copied, rest_copied)
        (append_assoc (front h.book) records (back h.book) ∙ ap (λ (l : List ℕ). l ++ (records ++ back h.book)) (sym front_same) ∙ sym (encode_cut (chosen h.book n)))

    module _ {y : ℕ} (is_y : y ≡ lightpaths_len new) where
      new_records : y ≡ length records
      new_records = is_y ∙ ap lightpaths_len h.new_is ∙ lightpaths_long (chosen h.book n)

      abbrev total : ℕ
      total = first + y + length rest

      total_is : total ≡ length written
      total_is = omega (arith, first_is, new_records, ap length rest_copied, encode_long (chosen h.book n), ap length front_same)

      pub total_low : total ≤ 3976
      total_low = omega (arith, total_is, longest (chosen h.book n) h.new_fits)

      -- the three copies, one behind the other
      module _ (d : List ℕ) where
        abbrev copied : List ℕ
        copied = laid (laid (laid d 0 (take first s)) first records) (first + y) rest

        all_laid : total ≤ length d → copied ≡ written ++ drop (length written) d
        all_laid room =
            let a = take first s in
            let one : length a ≡ first = ap length front_copied ∙ sym first_is in
            let two : length (a ++ records) ≡ first + y = length-append a records ∙ omega (arith, one, new_records) in
            ap (λ (l : List ℕ). laid l (first + y) rest) (laid_behind d a records first one (omega arith)) ∙ laid_behind d (a ++ records) rest (first + y) two (omega arith)
            ∙ ap (laid d 0) joined ∙ laid_first d written

        pub rewritten : total ≤ length d → (Ok total ≡ written_of (writing s n (length d))) × (copied ≡ buffer (writing s n (length d)) d)
        rewritten room = rw (h.asked, le-leb (length written) (length d) (omega (arith, total_is))) (ap Ok total_is, all_laid room)

        pub too_short : length d < total → (Err (refusal 11 0) ≡ written_of (writing s n (length d))) × (d ≡ buffer (writing s n (length d)) d)
        too_short l = rw (h.asked, lt-leb (length written) (length d) (omega (arith, total_is))) (refl, refl)
