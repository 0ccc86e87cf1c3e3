-- What each number of refusal means, in the words of docs/BOOK.md, section 6: how far a book stands, and what is wrong with the record that
-- is due there.
use Rattle.std.specs.Prelude.{ℕ, suc, ◌+◌, ◌≤◌, ◌<◌, ◌≡◌, List, [], ◌∷◌, ◌++◌, map, reverse, Bool, true, false, length}
use Rattle.book.specs.Reader.{Mark, is_mark}
use Rattle.book.specs.Book.{Span, Ends, Lightpath, Alternative, some, among, below, counts_fit, span_ends, span_fits, lightpath_ends, lightpath_fits, length_fits, span_at, touches, far, follows, lightpath_of, ends_of, ends_at, alternative_fits}
use Rattle.book.specs.Format.{HD, ND, SP, LP, AL, EN, record_bytes, hd_bytes, nd_bytes, sp_bytes, lp_bytes, al_bytes, en_bytes, field}

-- B33: what is due, with what has been read: the counts c of HD; how many more records of the kind; those read already, the last first
pub data Due : Type 0 where
  head : Due
  nodes : (c : List ℕ) (more : ℕ) → List Bool → Due
  spans : (c : List ℕ) (ns : List Bool) (more : ℕ) → List Span → Due
  lightpaths : (c : List ℕ) (ns : List Bool) (sps : List Span) (more : ℕ) → List Lightpath → Due
  alternatives : (sps : List Span) (es : List Ends) (more : ℕ) → List Alternative → Due
  ending : Due
  past : Due

-- B33: front to back, the book b stands up to the bytes s, where this is due: every record before s is whole and fits
pub data Stands (b : List ℕ) : Due → List ℕ → Type 0 where
  at_head : Stands b head b
  after_head : {s t : List ℕ} {n x p a : ℕ} → Stands b head s → s ≡ hd_bytes n x p a ++ t → counts_fit n x p a ≡ true → Stands b (nodes (n ∷ x ∷ p ∷ a ∷ []) n []) t
  after_node : {s t c : List ℕ} {k : ℕ} {ns : List Bool} {x : Bool} → Stands b (nodes c (suc k) ns) s → s ≡ nd_bytes x ++ t → Stands b (nodes c k (x ∷ ns)) t
  after_nodes : {s c : List ℕ} {ns : List Bool} → Stands b (nodes c 0 ns) s → some (reverse ns) ≡ true → Stands b (spans c (reverse ns) (field c 1) []) s
  after_span : {s t c : List ℕ} {ns : List Bool} {k : ℕ} {sps : List Span} {x : Span} → Stands b (spans c ns (suc k) sps) s
      → s ≡ sp_bytes x ++ t → span_fits (length ns) x ≡ true → Stands b (spans c ns k (x ∷ sps)) t
  after_spans : {s c : List ℕ} {ns : List Bool} {sps : List Span} → Stands b (spans c ns 0 sps) s → Stands b (lightpaths c ns (reverse sps) (field c 2) []) s
  after_lightpath : {s t c : List ℕ} {ns : List Bool} {sps : List Span} {k : ℕ} {lps : List Lightpath} {x : Lightpath} → Stands b (lightpaths c ns sps (suc k) lps) s
      → s ≡ lp_bytes x ++ t → lightpath_fits ns sps x ≡ true → Stands b (lightpaths c ns sps k (x ∷ lps)) t
  after_lightpaths : {s c : List ℕ} {ns : List Bool} {sps : List Span} {lps : List Lightpath} → Stands b (lightpaths c ns sps 0 lps) s
      → Stands b (alternatives sps (map ends_of (reverse lps)) (field c 3) []) s
  after_alternative : {s t : List ℕ} {sps : List Span} {es : List Ends} {k : ℕ} {als : List Alternative} {x : Alternative} → Stands b (alternatives sps es (suc k) als) s
      → s ≡ al_bytes x ++ t → alternative_fits sps es als x ≡ true → Stands b (alternatives sps es k (x ∷ als)) t
  after_alternatives : {s : List ℕ} {sps : List Span} {es : List Ends} {als : List Alternative} → Stands b (alternatives sps es 0 als) s → Stands b ending s
  after_ending : {s t : List ℕ} → Stands b ending s → s ≡ en_bytes ++ t → Stands b past t

-- B34: the record that is due: its mark, and how many fixed fields it has
pub data Opens : Due → Mark → ℕ → Type 0 where
  opens_hd : Opens head HD 4
  opens_nd : {c : List ℕ} {k : ℕ} {ns : List Bool} → Opens (nodes c (suc k) ns) ND 1
  opens_sp : {c : List ℕ} {ns : List Bool} {k : ℕ} {sps : List Span} → Opens (spans c ns (suc k) sps) SP 3
  opens_lp : {c : List ℕ} {ns : List Bool} {sps : List Span} {k : ℕ} {lps : List Lightpath} → Opens (lightpaths c ns sps (suc k) lps) LP 3
  opens_al : {sps : List Span} {es : List Ends} {k : ℕ} {als : List Alternative} → Opens (alternatives sps es (suc k) als) AL 2
  opens_en : Opens ending EN 0

-- B35: the fixed fields of LP and AL are right, and a route of len spans between the ends e is due at the bytes u
pub data RouteDue : Due → List ℕ → List Span → Ends → ℕ → List ℕ → Type 0 where
  in_lp : {c s u : List ℕ} {ns : List Bool} {sps : List Span} {k : ℕ} {lps : List Lightpath} {f t len : ℕ}
      → s ≡ record_bytes LP (f ∷ t ∷ len ∷ []) ++ u → lightpath_ends ns (record { from = f; to = t }) ≡ true
      → RouteDue (lightpaths c ns sps (suc k) lps) s sps (record { from = f; to = t }) len u
  in_al : {s u : List ℕ} {sps : List Span} {es : List Ends} {k : ℕ} {als : List Alternative} {l len : ℕ}
      → s ≡ record_bytes AL (l ∷ len ∷ []) ++ u → follows (length es) (map lightpath_of als) l ≡ true
      → RouteDue (alternatives sps es (suc k) als) s sps (ends_at es l) len u

-- B40, B42: such a route is there: its length fits, its bytes are r, and v comes after them
pub record RouteThere (d : Due) (s : List ℕ) (sps : List Span) (e : Ends) (r v : List ℕ) : Type 0 where
  pub is_due : RouteDue d s sps e (length r) (r ++ v)
  pub fits : length_fits (length r) ≡ true

-- B14: these spans lead from the node p, with the nodes `met`, to the node q, with the nodes `seen`
pub data Leads (sps : List Span) : List ℕ → ℕ → List ℕ → List ℕ → ℕ → Type 0 where
  no_span : {met : List ℕ} {p : ℕ} → Leads sps met p [] met p
  span_on : {met seen xs : List ℕ} {p x q : ℕ} → touches (span_at sps x) p ≡ true → among (far (span_at sps x) p) met ≡ false
      → Leads sps (far (span_at sps x) p ∷ met) (far (span_at sps x) p) xs seen q → Leads sps met p (x ∷ xs) seen q

-- B42: a walk over `before`, x and `after`, from p to t, fails at x: those before lead to q, and x has no end there
pub data Stray (sps : List Span) (met : List ℕ) (p t : ℕ) (before : List ℕ) (x : ℕ) : List ℕ → Type 0 where
  untouched : {seen after : List ℕ} {q : ℕ} → Leads sps met p before seen q → touches (span_at sps x) q ≡ false → Stray sps met p t before x after
  -- or it leads back to a node that is met
  met_again : {seen after : List ℕ} {q : ℕ} → Leads sps met p before seen q → touches (span_at sps x) q ≡ true → among (far (span_at sps x) q) seen ≡ true
      → Stray sps met p t before x after
  -- or it is the last, and all of them lead to a node that is not t
  elsewhere : {seen : List ℕ} {q : ℕ} → Leads sps met p (before ++ x ∷ []) seen q → (q ≡ t → ⊥) → Stray sps met p t before x []

-- the rows of the table, for what is due at the bytes s: the number, and the bytes from its place on, which are s but for 5 and 7
pub data Row : Due → List ℕ → ℕ → List ℕ → Type 0 where
  -- B36, number 1: a record is due, and fewer than two bytes are left
  row1_mark : {d : Due} {m : Mark} {k : ℕ} {s : List ℕ} → Opens d m k → length s < 2 → Row d s 1 s
  -- or its mark is there, and fewer bytes than its fixed fields
  row1_fields : {d : Due} {m : Mark} {k : ℕ} {s : List ℕ} → Opens d m k → 2 ≤ length s → is_mark m s ≡ true → length s < 2 + k → Row d s 1 s
  -- or a route of a length that fits is due, and fewer bytes than that are left
  row1_route : {d : Due} {s u : List ℕ} {sps : List Span} {e : Ends} {len : ℕ} → RouteDue d s sps e len u → length_fits len ≡ true → length u < len → Row d s 1 s
  -- B37, number 2: a record is due, two bytes are left, and they are not its mark
  row2 : {d : Due} {m : Mark} {k : ℕ} {s : List ℕ} → Opens d m k → 2 ≤ length s → is_mark m s ≡ false → Row d s 2 s
  -- B38, number 3: the counts of HD do not fit
  row3 : {s t : List ℕ} {n x p a : ℕ} → s ≡ hd_bytes n x p a ++ t → counts_fit n x p a ≡ false → Row head s 3 s
  -- B39, number 4: the flag of an ND is above 1
  row4_node : {s t c : List ℕ} {k x : ℕ} {ns : List Bool} → s ≡ record_bytes ND (x ∷ []) ++ t → 1 < x → Row (nodes c (suc k) ns) s 4 s
  -- or an end of an SP is no node, or its ends are equal
  row4_span : {s t c : List ℕ} {ns : List Bool} {k l r w : ℕ} {sps : List Span}
      → s ≡ record_bytes SP (l ∷ r ∷ w ∷ []) ++ t → span_ends (length ns) l r ≡ false → Row (spans c ns (suc k) sps) s 4 s
  -- or an end of an LP is no station, or its ends are equal
  row4_lightpath : {s u c : List ℕ} {ns : List Bool} {sps : List Span} {k f t len : ℕ} {lps : List Lightpath}
      → s ≡ record_bytes LP (f ∷ t ∷ len ∷ []) ++ u → lightpath_ends ns (record { from = f; to = t }) ≡ false → Row (lightpaths c ns sps (suc k) lps) s 4 s
  -- B40, number 5: the bytes of a route that is due are there, and x, at the place, is its first span number that is not below the count
  row5 : {d : Due} {s : List ℕ} {sps : List Span} {e : Ends} (before : List ℕ) (x : ℕ) (after v : List ℕ) → RouteThere d s sps e (before ++ x ∷ after) v
      → below (length sps) before ≡ true → length sps ≤ x → Row d s 5 (x ∷ (after ++ v))
  -- B41, number 6: the length of a route that is due does not fit
  row6 : {d : Due} {s u : List ℕ} {sps : List Span} {e : Ends} {len : ℕ} → RouteDue d s sps e len u → length_fits len ≡ false → Row d s 6 s
  -- B42, number 7: they are there, all its span numbers are below the count, and its walk fails at x, at the place
  row7 : {d : Due} {s : List ℕ} {sps : List Span} {e : Ends} (before : List ℕ) (x : ℕ) (after v : List ℕ) → RouteThere d s sps e (before ++ x ∷ after) v
      → below (length sps) (before ++ x ∷ after) ≡ true → Stray sps (e.from ∷ []) e.from e.to before x after → Row d s 7 (x ∷ (after ++ v))
  -- B43, number 8: the lightpath of an AL may not follow those before it
  row8 : {s u : List ℕ} {sps : List Span} {es : List Ends} {k l len : ℕ} {als : List Alternative}
      → s ≡ record_bytes AL (l ∷ len ∷ []) ++ u → follows (length es) (map lightpath_of als) l ≡ false → Row (alternatives sps es (suc k) als) s 8 s
  -- B44, number 9: a byte follows EN
  row9 : {x : ℕ} {s : List ℕ} → Row past (x ∷ s) 9 (x ∷ s)
  -- B45, number 10: all ND are read, and no node is a station
  row10 : {c s : List ℕ} {ns : List Bool} → some (reverse ns) ≡ false → Row (nodes c 0 ns) s 10 s

-- B25: the book b is at fault by row n of the table, at the place p: it stands up to `rest`, and there the row applies, with p before its place
pub record Fault (b : List ℕ) (n p : ℕ) : Type 0 where
  pub due : Due
  pub rest : List ℕ
  pub stands : Stands b due rest
  pub onward : List ℕ
  pub row : Row due rest n onward
  pub place : p + length onward ≡ length b
