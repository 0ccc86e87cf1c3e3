-- Bytes laid over a buffer: two runs, one behind the other, are one run, and a run at the buffer's head is all that stands before the rest.
-- So what is written piece by piece is what is written at once.
use Prim.Native.Nat.{ℕ, ◌+◌, ◌≤◌}
use mathlib.Core.Path.{◌≡◌, sym, ap, ap₂, ◌∙◌}
use mathlib.Core.List.{List, [], ◌++◌, append_assoc}
use native.Mathlib.Omega.{arith}
use lib.ListN.{length, take, drop, length-append}
use lib.Seq.{paste-zero, take-paste, drop-paste, take-length, drop-drop, take-append-add, drop-append-add}
use Rattle.book.specs.Memory.{laid}

pub laid_none : (d : List ℕ) (at : ℕ) → laid d at [] ≡ d
laid_none d at = sym (paste-zero d at [])

-- what laid bytes are, with no more said of how many of them there are
laid_is : (d : List ℕ) (at : ℕ) (x : List ℕ) → laid d at x ≡ take at d ++ x ++ drop (at + length x) d
laid_is d at x = ap (λ (l : List ℕ). take at d ++ l ++ drop (at + length x) d) (take-length x)

pub laid_then : (d : List ℕ) (at : ℕ) (x y : List ℕ) → at + length x ≤ length d → laid (laid d at x) (at + length x) y ≡ laid d at (x ++ y)
laid_then d at x y h =
    let n : at + length (x ++ y) ≡ at + length x + length y = omega (arith, length-append x y) in
    let front : take (at + length x) (laid d at x) ≡ take at d ++ x = take-paste d at x (length x) (omega arith) (omega arith) ∙ ap (λ (l : List ℕ). take at d ++ l) (take-length x) in
    let rest : drop (at + length x + length y) (laid d at x) ≡ drop (at + length (x ++ y)) d =
    sym (drop-drop (length y) (at + length x) (laid d at x)) ∙ ap (drop (length y)) (drop-paste d at x (length x) (omega arith) (omega arith))
    ∙ drop-drop (length y) (at + length x) d ∙ ap (λ (i : ℕ). drop i d) (sym n)
    in
    laid_is (laid d at x) (at + length x) y ∙ ap₂ (λ (f r : List ℕ). f ++ y ++ r) front rest
    ∙ ap (λ (l : List ℕ). l ++ drop (at + length (x ++ y)) d) (append_assoc (take at d) x y) ∙ sym (laid_is d at (x ++ y))

-- a run behind one that stands at the head, and that one alone
pub laid_behind : (d x y : List ℕ) (at : ℕ) → length x ≡ at → at ≤ length d → laid (laid d 0 x) at y ≡ laid d 0 (x ++ y)
laid_behind d x y at e h = let z : at ≡ 0 + length x = omega arith in ap (λ (i : ℕ). laid (laid d 0 x) i y) z ∙ laid_then d 0 x y (omega arith)

pub laid_first : (d x : List ℕ) → laid d 0 x ≡ x ++ drop (length x) d
laid_first d x = let z : 0 + length x ≡ length x = omega arith in laid_is d 0 x ∙ ap (λ (i : ℕ). x ++ drop i d) z

-- a run behind what stands before it
pub laid_after : (x d : List ℕ) (at : ℕ) (y : List ℕ) → laid (x ++ d) (length x + at) y ≡ x ++ laid d at y
laid_after x d at y =
    let n : length x + at + length y ≡ length x + (at + length y) = omega arith in
    laid_is (x ++ d) (length x + at) y
    ∙ ap₂ (λ (f r : List ℕ). f ++ y ++ r) (take-append-add x d at) (ap (λ (i : ℕ). drop i (x ++ d)) n ∙ drop-append-add x d (at + length y))
    ∙ ap (λ (l : List ℕ). l ++ drop (at + length y) d) (append_assoc x (take at d) y) ∙ append_assoc x (take at d ++ y) (drop (at + length y) d) ∙ ap (λ (l : List ℕ). x ++ l) (sym (laid_is d at y))
