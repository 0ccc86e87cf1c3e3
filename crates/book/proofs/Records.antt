-- Each kind of record: its reader and its encoding are each other's inverse over the values that fit.
-- Every proof goes test by test, in the order of docs/BOOK.md, section 5.
use Prim.Native.Nat.{ℕ}
use mathlib.Core.Path.{◌≡◌, refl, sym, subst}
use mathlib.Core.List.{List, [], ◌∷◌, ◌++◌, map}
use mathlib.Core.Bool.{Bool, true, false, cond}
use native.Mathlib.Omega.{arith}
use lib.ListN.{length}
use lib.Dec.{eqb, ltb, leb}
use borrow.Author.Tests.{leb-true, eqb-true, eqb-false}
use Rattle.book.specs.Reader.{got, and_then, need, fields, opened}
use Rattle.book.specs.Book.{Span, Route, Ends, Alternative, below, counts_fit, span_ends, span_fits, lightpath_ends, length_fits, route_walks, route_fits, lightpath_fits, follows, lightpath_of, ends_at, alternative_fits}
use Rattle.book.specs.Format.{HD, ND, SP, LP, AL, record_bytes, hd_bytes, nd_bytes, sp_bytes, lp_bytes, al_bytes, field, hd, nd, sp, route, lp, al}
use Rattle.book.proofs.Tests.{and_inv, and_both}
use Rattle.book.proofs.Readers.{Bytes, bytes_after, then_got, need_got, carried, joined, fields_back, fields_only, opened_back, opened_only, Right}

pub hd_back : (n s p a : ℕ) (here t : List ℕ) → counts_fit n s p a ≡ true → hd here (hd_bytes n s p a ++ t) ≡ got (n ∷ s ∷ p ∷ a ∷ []) t
hd_back n s p a here t h = rw (opened_back HD 4 (n ∷ s ∷ p ∷ a ∷ []) here t refl, h)

pub hd_only : (here s : List ℕ) {c t : List ℕ} → hd here s ≡ got c t
    → (s ≡ hd_bytes (field c 0) (field c 1) (field c 2) (field c 3) ++ t) × (counts_fit (field c 0) (field c 1) (field c 2) (field c 3) ≡ true)
hd_only here s e =
    let z = then_got (opened HD 4 here s) _ e in
    let o = opened_only HD 4 here s z.2 in
    let y = need_got (counts_fit (field z.0 0) (field z.0 1) (field z.0 2) (field z.0 3)) 3 here z.1 _ z.3 in
    carried (λ c t. (s ≡ hd_bytes (field c 0) (field c 1) (field c 2) (field c 3) ++ t) × (counts_fit (field c 0) (field c 1) (field c 2) (field c 3) ≡ true)) y.1 (o.0, y.0)

-- a flag of at most 1 is the flag of what it says
flag : (x : ℕ) → leb x 1 ≡ true → x ≡ cond (eqb x 1) 1 0
flag x l = go (eqb x 1) refl
  where
    go : (t : Bool) → eqb x 1 ≡ t → x ≡ cond t 1 0
    go true e = eqb-true x 1 e
    go false e = omega (arith, leb-true x 1 l, eqb-false x 1 e)

flag_back : (n : Bool) (here t : List ℕ) → and_then (need (leb (cond n 1 0) 1) 4 here t) (λ x u. got (eqb (cond n 1 0) 1) u) ≡ got n t
flag_back true here t = refl
flag_back false here t = refl

pub nd_right : Right (λ n. true) nd_bytes nd
nd_right = record {
  back = λ n here t h. rw (opened_back ND 1 (cond n 1 0 ∷ []) here t refl) (flag_back n here t);
  only = λ here s h e.
      let z = then_got (opened ND 1 here s) _ e in
      let o = opened_only ND 1 here s z.2 in
      let y = need_got (leb (field z.0 0) 1) 4 here z.1 _ z.3 in
      carried (λ n u. (s ≡ nd_bytes n ++ u) × (◌≡◌ {A = Bool} true true)) y.1
      (subst (λ (x : ℕ). s ≡ record_bytes ND (x ∷ []) ++ z.1) (flag (field z.0 0) y.0) o.0, refl);
}

pub sp_right : (n : ℕ) → Right (span_fits n) sp_bytes (sp n)
unfolding below
sp_right n = record {
  back = λ x here t h. rw (opened_back SP 3 (x.left ∷ x.right ∷ x.limit ∷ []) here t refl, (and_inv {a = span_ends n x.left x.right} h).0);
  only = λ here s h e.
      let z = then_got (opened SP 3 here s) _ e in
      let o = opened_only SP 3 here s z.2 in
      let y = need_got (span_ends n (field z.0 0) (field z.0 1)) 4 here z.1 _ z.3 in
      let l = and_inv {a = ltb (field z.0 2) 256} (bytes_after (record_bytes SP (field z.0 0 ∷ field z.0 1 ∷ [])) (field z.0 2 ∷ z.1) (subst Bytes o.0 h)) in
      carried (λ x u. (s ≡ sp_bytes x ++ u) × (span_fits n x ≡ true)) y.1 (o.0, and_both y.0 l.0);
}

module _ (sps : List Span) (e : Ends) where
  route_back : (r : Route) (here t : List ℕ) → route_fits sps e r ≡ true → route sps e (length r.spans) here (r.spans ++ t) ≡ got r t
  route_back r here t h =
      let a = and_inv {a = length_fits (length r.spans)} h in
      let b = and_inv {a = below (length sps) r.spans} a.1 in
      rw (a.0, fields_back (length r.spans) r.spans here t refl, b.0, b.1)

  route_only : (len : ℕ) (here s : List ℕ) {r : Route} {t : List ℕ} → route sps e len here s ≡ got r t
      → (s ≡ r.spans ++ t) × (len ≡ length r.spans) × (route_fits sps e r ≡ true)
  route_only len here s q =
      let a = need_got (length_fits len) 6 here s _ q in
      let z = then_got (fields len here s) _ a.1 in
      let o = fields_only len here s z.2 in
      let b = need_got (below (length sps) z.0) 5 _ z.1 _ z.3 in
      let c = need_got (route_walks sps e z.0) 7 _ z.1 _ b.1 in
      carried (λ r u. (s ≡ r.spans ++ u) × (len ≡ length r.spans) × (route_fits sps e r ≡ true)) c.1
      (o.0, sym o.1, and_both (subst (λ (n : ℕ). length_fits n ≡ true) (sym o.1) a.0) (and_both b.0 c.0))

pub lp_right : (ns : List Bool) (sps : List Span) → Right (lightpath_fits ns sps) lp_bytes (lp ns sps)
lp_right ns sps = record {
  back = λ p here t h.
      let a = and_inv {a = lightpath_ends ns p.ends} h in
      rw (opened_back LP 3 (p.ends.from ∷ p.ends.to ∷ length p.route.spans ∷ []) here (p.route.spans ++ t) refl, a.0, route_back sps p.ends p.route here t a.1);
  only = λ here s h q.
      let z = then_got (opened LP 3 here s) _ q in
      let v = z.0 in
      let e : Ends = record { from = field v 0; to = field v 1 } in
      let o = opened_only LP 3 here s z.2 in
      let y = need_got (lightpath_ends ns e) 4 here z.1 _ z.3 in
      let x = then_got (route sps e (field v 2) here z.1) _ y.1 in
      let w = route_only sps e (field v 2) here z.1 x.2 in
      carried (λ p u. (s ≡ lp_bytes p ++ u) × (lightpath_fits ns sps p ≡ true)) x.3 (
        subst (λ (n : ℕ). s ≡ record_bytes LP (field v 0 ∷ field v 1 ∷ n ∷ x.0.spans) ++ x.1) w.1
            (joined (record_bytes LP (field v 0 ∷ field v 1 ∷ field v 2 ∷ [])) x.0.spans x.1 o.0 w.0),
        and_both y.0 w.2,
      );
}

pub al_right : (sps : List Span) (es : List Ends) (before : List Alternative) → Right (alternative_fits sps es before) al_bytes (al sps es before)
al_right sps es before = record {
  back = λ p here t h.
      let a = and_inv {a = follows (length es) (map lightpath_of before) p.lightpath} h in
      rw (opened_back AL 2 (p.lightpath ∷ length p.route.spans ∷ []) here (p.route.spans ++ t) refl, a.0, route_back sps (ends_at es p.lightpath) p.route here t a.1);
  only = λ here s h q.
      let z = then_got (opened AL 2 here s) _ q in
      let v = z.0 in
      let e = ends_at es (field v 0) in
      let o = opened_only AL 2 here s z.2 in
      let y = need_got (follows (length es) (map lightpath_of before) (field v 0)) 8 here z.1 _ z.3 in
      let x = then_got (route sps e (field v 1) here z.1) _ y.1 in
      let w = route_only sps e (field v 1) here z.1 x.2 in
      carried (λ p u. (s ≡ al_bytes p ++ u) × (alternative_fits sps es before p ≡ true)) x.3 (
        subst (λ (n : ℕ). s ≡ record_bytes AL (field v 0 ∷ n ∷ x.0.spans) ++ x.1) w.1
            (joined (record_bytes AL (field v 0 ∷ field v 1 ∷ [])) x.0.spans x.1 o.0 w.0),
        and_both y.0 w.2,
      );
}
