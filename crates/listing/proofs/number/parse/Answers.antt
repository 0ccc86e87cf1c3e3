-- What the first bytes are worth, taken on with the bytes that are left, is what the word is worth, and it is never less.
use mathlib.Core.Path.{◌≡◌, refl, sym, ap, ◌∙◌}
use Prim.Native.Nat.{ℕ, ◌+◌, ◌*◌, ◌-◌}
use mathlib.Core.Bool.{true}
use native.Mathlib.Omega.{arith}
use borrow.Author.Rules.{rules}
use lib.ListN.{get_or, drop}
use Rattle.std.specs.Char.{is_ascii_digit}
use Rattle.std.specs.Prelude.{Some, None}
use Rattle.std.proofs.lemmas.List.Sums.{AllPass-from_list_all}
use Rattle.listing.specs.Text.{worth_from}
use Rattle.listing.specs.Inside.{with_digit}
use Rattle.listing.proofs.Numbers.{too_great, with_fits, with_great, worth_next, worth_least, worth_done, digit_is, number_exact}
use Rattle.listing.proofs.number.parse.Goals as goal
use Rattle.listing.proofs.number.parse.Goals.{After-with_digit, In-loop-c}

-- the next byte is a digit, so the worth goes on with its value
module _ (c : In-loop-c) where
  digit : is_ascii_digit (get_or c.args.word.now c.loop-c.c-index 0) ≡ true
  digit = AllPass-from_list_all is_ascii_digit c.args.word.now (sym c.all_digits.ensures ∙ c.if-not-all_digits.false) c.loop-c.c-index 0 c.loop-c-test.true

  next : {x : ℕ} → x ≡ 10 * c.loop-c.n + (get_or c.args.word.now c.loop-c.c-index 0 - 48)
      → worth_from 10 x (drop (c.loop-c.c-index + 1) c.args.word.now) ≡ worth_from 10 0 c.args.word.now
  next e =
      ap (λ (v : ℕ). worth_from 10 v (drop (c.loop-c.c-index + 1) c.args.word.now)) (e ∙ ap (λ (d : ℕ). 10 * c.loop-c.n + d) (sym (digit_is _ digit)))
      ∙ sym (worth_next c.args.word.now c.loop-c.n c.loop-c.c-index c.loop-c-test.true)
      ∙ c.loop-c.invariant.1

pub returns-in_err-n : goal.returns-in_err-n
returns-in_err-n c =
    let w = c.args.word.now in
    let i = c.loop-c.c-index in
    let d = get_or w i 0 in
    let none : None ≡ with_digit c.loop-c.n d = search rules in
    let most = worth_least (10 * c.loop-c.n + (d - 48)) (drop (i + 1) w) in
    let great = too_great w (search rules) (search rules) (omega (arith, with_great c.loop-c.n d none, most, next (goal.at.returns-in_err-n c).In-loop-c refl)) in
    search (rules, great)

pub loop-c-preserved : goal.loop-c-preserved
loop-c-preserved c =
    let some : Some c.in_ok-n.n ≡ with_digit c.loop-c.n (get_or c.args.word.now c.loop-c.c-index 0) = search rules in
    let fits = with_fits c.loop-c.n (get_or c.args.word.now c.loop-c.c-index 0) some in
    (fits.0, next (goal.at.loop-c-preserved c).In-loop-c fits.1)

pub returns : goal.returns
returns c =
    let w = c.args.word.now in
    let worth = sym c.loop-c.invariant.1 ∙ worth_done w c.loop-c.n c.loop-c.c-index c.loop-c-test.false in
    sym ((number_exact w c.loop-c.n).1 (search rules, search rules, worth, c.loop-c.invariant.0))
