-- What the operations answer: docs/JUDGEMENT.md, section 6. Each is told by the reading of a choice.
use Rattle.std.specs.Prelude.{ℕ, Bool, false, cond, ltb, length, Result, Ok, Err}
use Rattle.book.specs.Book.{RouteBook}
use Rattle.book.specs.Format.{Reading, good, refused}
use Rattle.book.specs.Memory.{fault_number, refusal}
use Rattle.book.specs.declared.refusal.Refusal.{Refusal}
use Rattle.judgement.specs.Judgement.{verdict, score_f, score_fc, side, without, whole}
use Rattle.judgement.specs.Withdrawn.{up_with, in_words, beyond}
use Rattle.judgement.specs.declared.Verdict.TheVariants.{Over, Split, Cut, Okay}
use Rattle.judgement.specs.declared.Verdict.{Verdict}
use Rattle.judgement.specs.declared.Judged.{Judged}
use Rattle.judgement.specs.declared.Asked.{Asked}

-- J21, J22, J23: the judgement, and with it the score
abbrev pub judged : Verdict → ℕ → ℕ → Judged
judged v f c = record { verdict = v; f = f; fc = c }

abbrev pub judgement_of : RouteBook → Judged
judgement_of m = judged (verdict m) (score_f m) (score_fc m)

abbrev pub judged_of : Reading → Result Judged Refusal
judged_of (good m) = Ok (judgement_of m)
judged_of (refused k p) = Err (refusal k p)

-- J21, J24: the question about span x: 13 where there is no such span; also where the choice is over
abbrev pub asked : ℕ → Bool → Asked
asked d t = record { side = d; whole = t }

abbrev pub asked_of : Reading → ℕ → Result Asked Refusal
asked_of (good m) x = cond (ltb x (length m.spans)) (Ok (asked (side m (without m x)) (whole m (without m x)))) (Err (refusal 13 0))
asked_of (refused k p) x = Err (refusal k p)

-- J21, J29, J30: the question about a set of spans, which is two words: 13 where it holds a number that no span has
abbrev pub asked_set_of : Reading → ℕ → ℕ → Result Asked Refusal
asked_set_of (good m) low high =
    let up = up_with m (in_words low high) in
    cond (beyond (in_words low high) (length m.spans)) (Err (refusal 13 0)) (Ok (asked (side m up) (whole m up)))
asked_set_of (refused k p) low high = Err (refusal k p)

-- J25: the numbers of an answer, for each of its cases: the number and place of a refusal, and what it carries; whatever it does not carry is 0
pub record Numbers : Type 0 where
  pub number : ℕ
  pub place : ℕ
  pub span : ℕ
  pub load : ℕ
  pub limit : ℕ
  pub side : ℕ
  pub f : ℕ
  pub fc : ℕ

abbrev pub verdict_numbers : Verdict → ℕ → ℕ → Numbers
verdict_numbers (Over x l w) f c = record { number = 0; place = 0; span = x; load = l; limit = w; side = 0; f = f; fc = c }
verdict_numbers (Split d) f c = record { number = 0; place = 0; span = 0; load = 0; limit = 0; side = d; f = f; fc = c }
verdict_numbers (Cut x d) f c = record { number = 0; place = 0; span = x; load = 0; limit = 0; side = d; f = f; fc = c }
verdict_numbers Okay f c = record { number = 0; place = 0; span = 0; load = 0; limit = 0; side = 0; f = f; fc = c }

abbrev pub judged_numbers : Result Judged Refusal → Numbers
judged_numbers (Ok j) = verdict_numbers j.verdict j.f j.fc
judged_numbers (Err r) = record { number = fault_number r.fault; place = r.place; span = 0; load = 0; limit = 0; side = 0; f = 0; fc = 0 }

-- the side and whether it holds all stations, with the number and place of a refusal
pub record Sides : Type 0 where
  pub number : ℕ
  pub place : ℕ
  pub side : ℕ
  pub all : Bool

abbrev pub asked_numbers : Result Asked Refusal → Sides
asked_numbers (Ok a) = record { number = 0; place = 0; side = a.side; all = a.whole }
asked_numbers (Err r) = record { number = fault_number r.fault; place = r.place; side = 0; all = false }
