-- THE WRITER: what it answers, case by case, and the read-back: what is written reads as good, and its choice 0 has the routes of the choice.
-- The chosen book is well formed, so the law of the format says all that there is to say about its bytes.
use Prim.Native.Nat.{ℕ, ◌≤◌, ◌<◌}
use mathlib.Core.Path.{◌≡◌, refl, sym, ap, ap₂, ◌∙◌}
use mathlib.Core.List.{List}
use mathlib.Core.Bool.{Bool, true, false, cond}
use native.Mathlib.Omega.{arith}
use lib.ListN.{length, take, drop, length-append, length-drop}
use lib.Seq.{take-append_seam, drop-append_seam}
use lib.Dec.{ltb, leb}
use borrow.Author.Tests.{ltb-true, ltb-false, leb-true, leb-false, lt-leb, le-leb}
use Rattle.book.specs.Book.{RouteBook, well_formed}
use Rattle.book.specs.Format.{encode, Reading, good, refused, reading}
use Rattle.book.specs.Choice.{sizes, choices, product, digits, route_by, chosen}
use Rattle.book.specs.Writing.{Writing, served, denied, fitted, fitted_of, writing_of, writing, buffer, written_length, written_of}
use Rattle.std.specs.Prelude.{Result, Ok}
use Rattle.book.specs.declared.refusal.Refusal.{Refusal}
use Rattle.book.specs.Memory.{fault_number, fault_of, number_of, place_of}
use Rattle.book.proofs.Readers.{Bytes}
use Rattle.book.proofs.Format.{reading_only}
use Rattle.book.proofs.Longest.{longest}
use Rattle.book.proofs.Unique.{refused_within}
use Rattle.book.proofs.Tabled.{refused_number}
use Rattle.book.proofs.Chosen.{choice_fits, chosen_sizes, chosen_none, chosen_zero, chosen_reads}
use Rattle.book.proofs.Choices.{choices_some}
use Rattle.book.proofs.Written.{no_such_choice, such_a_choice}

-- served: the bytes b are a good book, n is below its number of choices, and w is the chosen book as it is written; w reads as that book, which
-- has as many choices, and whose choice 0 has the routes of choice n
pub record Wrote (b : List ℕ) (n room : ℕ) (w : List ℕ) : Type 0 where
  pub book : RouteBook
  pub reads : reading b ≡ good book
  pub below : n < choices book
  pub is : w ≡ encode (chosen book n)
  pub fits : length w ≤ room
  pub back : reading w ≡ good (chosen book n)
  pub same_choices : choices (chosen book n) ≡ choices book
  pub same_routes : (k : ℕ) → k < length book.lightpaths → route_by (chosen book n) (digits (sizes (chosen book n)) 0) k ≡ route_by book (digits (sizes book) n) k

-- denied: the book's own fault; else 12, no such choice; else 11, too little room
pub data Denied (b : List ℕ) (n room : ℕ) : ℕ → ℕ → Type 0 where
  at_fault : {k p : ℕ} → reading b ≡ refused k p → Denied b n room k p
  no_choice : (m : RouteBook) → reading b ≡ good m → choices m ≤ n → Denied b n room 12 0
  no_room : (m : RouteBook) → reading b ≡ good m → n < choices m → room < length (encode (chosen m n)) → Denied b n room 11 0

-- what the answer is
pub data Answered (b : List ℕ) (n room : ℕ) : Writing → Type 0 where
  was_served : {w : List ℕ} → Wrote b n room w → Answered b n room (served w)
  was_denied : {k p : ℕ} → Denied b n room k p → Answered b n room (denied k p)

module _ (b : List ℕ) (n room : ℕ) (h : Bytes b) where
  served_by : (m : RouteBook) → reading b ≡ good m → n < choices m → length (encode (chosen m n)) ≤ room → Wrote b n room (encode (chosen m n))
  served_by m e l f = record {
    book = m;
    reads = e;
    below = l;
    is = refl;
    fits = f;
    back = chosen_reads m n (reading_only b m h e).1;
    same_choices = ap product (chosen_sizes m (digits (sizes m) n));
    same_routes = chosen_zero m (digits (sizes m) n);
  }

  fitted_by : (m : RouteBook) → reading b ≡ good m → n < choices m → Answered b n room (fitted room (encode (chosen m n)))
  fitted_by m e l = go (leb (length (encode (chosen m n))) room) refl
    where
      go : (t : Bool) → leb (length (encode (chosen m n))) room ≡ t → Answered b n room (cond t (served (encode (chosen m n))) (denied 11 0))
      go true q = was_served (served_by m e l (leb-true (length (encode (chosen m n))) room q))
      go false q = was_denied (no_room m e l (leb-false (length (encode (chosen m n))) room q))

  -- THE LAW: every answer of the writer means what it says
  pub answered : Answered b n room (writing b n room)
  answered = go (reading b) refl
    where
      choose : (m : RouteBook) → reading b ≡ good m → (t : Bool) → ltb n (choices m) ≡ t → Answered b n room (fitted_of room (cond t (good (chosen m n)) (refused 12 0)))
      choose m e true q = fitted_by m e (ltb-true n (choices m) q)
      choose m e false q = was_denied (no_choice m e (ltb-false n (choices m) q))

      go : (g : Reading) → reading b ≡ g → Answered b n room (writing_of g n room)
      go (good m) e = choose m e (ltb n (choices m)) refl
      go (refused k p) e = was_denied (at_fault e)

-- and each case gives that answer
pub denied_is : (b : List ℕ) (n room : ℕ) {k p : ℕ} → Denied b n room k p → writing b n room ≡ denied k p
denied_is b n room (at_fault e) = rw e
denied_is b n room (no_choice m e l) = rw (e, no_such_choice m n l)
denied_is b n room (no_room m e l f) = rw (e, such_a_choice m n l, lt-leb (length (encode (chosen m n))) room f)

pub served_is : (b : List ℕ) (n room : ℕ) (m : RouteBook) → reading b ≡ good m → n < choices m → length (encode (chosen m n)) ≤ room → writing b n room ≡ served (encode (chosen m n))
served_is b n room m e l f = rw (e, such_a_choice m n l, le-leb (length (encode (chosen m n))) room f)

-- choice 0 of a good book is written as the very bytes that were read
pub choice_zero : (b : List ℕ) (room : ℕ) (m : RouteBook) → Bytes b → reading b ≡ good m → length b ≤ room → writing b 0 room ≡ served b
choice_zero b room m h e l =
    let o = reading_only b m h e in
    let same : encode (chosen m 0) ≡ b = ap encode (chosen_none m) ∙ o.0 in
    served_is b 0 room m e (choices_some m o.1) (omega (arith, ap length same)) ∙ ap served same

-- 3,976 bytes are room enough for every choice of every book
pub room_enough : (m : RouteBook) (n : ℕ) → well_formed m ≡ true → length (encode (chosen m n)) ≤ 3976
room_enough m n w = longest (chosen m n) (choice_fits m n w)

-- the buffer keeps its length, begins with what is served, and is as it was beyond
pub buffer_served : (w out : List ℕ) → length w ≤ length out
    → (length (buffer (served w) out) ≡ length out) × (take (length w) (buffer (served w) out) ≡ w) × (drop (length w) (buffer (served w) out) ≡ drop (length w) out)
buffer_served w out l =
    (length-append w (drop (length w) out) ∙ omega (arith, length-drop (length w) out), take-append_seam w (drop (length w) out), drop-append_seam w (drop (length w) out))

-- END TO END, from the contract of `write`: r is its answer, and x the buffer `out` afterwards
module _ (b : List ℕ) (n : ℕ) (out : List ℕ) (r : Result ℕ Refusal) (x : List ℕ) (h : Bytes b)
    (met : (r ≡ written_of (writing b n (length out))) × (x ≡ buffer (writing b n (length out)) out)) where
  -- number 0: the buffer has its length still, begins with the chosen book, and is as it was beyond; and what was written reads back
  pub record Back : Type 0 where
    pub book : RouteBook
    pub reads : reading b ≡ good book
    pub below : n < choices book
    pub same_length : length x ≡ length out
    pub written : take (written_length r) x ≡ encode (chosen book n)
    pub beyond : drop (written_length r) x ≡ drop (written_length r) out
    pub back : reading (take (written_length r) x) ≡ good (chosen book n)
    pub same_choices : choices (chosen book n) ≡ choices book
    pub same_routes : (k : ℕ) → k < length book.lightpaths → route_by (chosen book n) (digits (sizes (chosen book n)) 0) k ≡ route_by book (digits (sizes book) n) k

  back_of : {w : List ℕ} → Wrote b n (length out) w → r ≡ Ok (length w) → x ≡ buffer (served w) out → Back
  back_of {w} a e f =
      let long : written_length r ≡ length w = ap written_length e in
      let z = buffer_served w out a.fits in
      let front : take (written_length r) x ≡ w = ap₂ take long f ∙ z.1 in
      record {
        book = a.book;
        reads = a.reads;
        below = a.below;
        same_length = ap length f ∙ z.0;
        written = front ∙ a.is;
        beyond = ap₂ drop long f ∙ z.2 ∙ ap (λ (l : ℕ). drop l out) (sym long);
        back = ap reading front ∙ a.back;
        same_choices = a.same_choices;
        same_routes = a.same_routes;
      }

  denied_above : {k p : ℕ} → Denied b n (length out) k p → 1 ≤ k
  denied_above (at_fault e) = (refused_within b _ _ h e).0
  denied_above (no_choice m e l) = omega arith
  denied_above (no_room m e l f) = omega arith

  denied_number : {k p : ℕ} → Denied b n (length out) k p → fault_number (fault_of k) ≡ k
  denied_number (at_fault {k} {p} e) = refused_number b e
  denied_number (no_choice m e l) = refl
  denied_number (no_room m e l f) = refl

  pub number_served : number_of r ≡ 0 → Back
  number_served z = go (answered b n (length out) h) met.0 met.1
    where
      go : {v : Writing} → Answered b n (length out) v → r ≡ written_of v → x ≡ buffer v out → Back
      go (was_served a) e f = back_of a e f
      go (was_denied d) e f = absurd (omega (arith, z, denied_above d, denied_number d, ap number_of e))

  -- any other: a refusal on the ground with that number, at that place, and the buffer as it was, all of it
  pub number_denied : (number_of r ≡ 0 → ⊥) → Denied b n (length out) (number_of r) (place_of r) × (x ≡ out)
  number_denied z = go (answered b n (length out) h) met.0 met.1
    where
      go : {v : Writing} → Answered b n (length out) v → r ≡ written_of v → x ≡ buffer v out → Denied b n (length out) (number_of r) (place_of r) × (x ≡ out)
      go (was_served a) e f = absurd (z (ap number_of e))
      go (was_denied d) e f = (rw (e, denied_number d) d, f)
