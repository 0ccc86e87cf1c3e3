-- The route book as bytes: how it is written, docs/BOOK.md, section 4, and how it is read, section 5.
use Rattle.std.specs.Prelude.{ℕ, ◌-◌, List, [], ◌∷◌, ◌++◌, map, Bool, true, false, cond, not, ◌&&◌, length, get_or, eqb, ltb, leb}
use Rattle.book.specs.Reader.{Got, got, bad, Reader, ◌>>=◌, ◌>>◌, give, need, need_from, begun, each, fields, Mark, opened}
use Rattle.book.specs.Book.{Span, Route, Ends, Lightpath, Alternative, RouteBook, some, among, below, counts_fit, span_ends, lightpath_ends, length_fits, span_at, touches, far, route_walks, follows, lightpath_of, ends_of, ends_at}

-- B19: the marks, in ASCII
abbrev pub HD : Mark
HD = record { one = 0x48; two = 0x44 }

abbrev pub ND : Mark
ND = record { one = 0x4e; two = 0x44 }

abbrev pub SP : Mark
SP = record { one = 0x53; two = 0x50 }

abbrev pub LP : Mark
LP = record { one = 0x4c; two = 0x50 }

abbrev pub AL : Mark
AL = record { one = 0x41; two = 0x4c }

abbrev pub EN : Mark
EN = record { one = 0x45; two = 0x4e }

-- B21: the table of records
abbrev pub record_bytes : Mark → List ℕ → List ℕ
record_bytes m v = m.one ∷ m.two ∷ v

abbrev pub hd_bytes : ℕ → ℕ → ℕ → ℕ → List ℕ
hd_bytes n s p a = record_bytes HD (n ∷ s ∷ p ∷ a ∷ [])

abbrev pub nd_bytes : Bool → List ℕ
nd_bytes n = record_bytes ND (cond n 1 0 ∷ [])

abbrev pub sp_bytes : Span → List ℕ
sp_bytes x = record_bytes SP (x.left ∷ x.right ∷ x.limit ∷ [])

abbrev pub lp_bytes : Lightpath → List ℕ
lp_bytes p = record_bytes LP (p.ends.from ∷ p.ends.to ∷ length p.route.spans ∷ p.route.spans)

abbrev pub al_bytes : Alternative → List ℕ
al_bytes a = record_bytes AL (a.lightpath ∷ length a.route.spans ∷ a.route.spans)

abbrev pub en_bytes : List ℕ
en_bytes = record_bytes EN []

unfoldable pub bytes_of : {A : Type 0} → (A → List ℕ) → List A → List ℕ
bytes_of enc [] = []
bytes_of enc (a ∷ l) = enc a ++ bytes_of enc l

-- B22: a book is written in this order
unfoldable pub encode : RouteBook → List ℕ
encode m =
    hd_bytes (length m.nodes) (length m.spans) (length m.lightpaths) (length m.alternatives)
    ++ (bytes_of nd_bytes m.nodes ++ (bytes_of sp_bytes m.spans ++ (bytes_of lp_bytes m.lightpaths ++ (bytes_of al_bytes m.alternatives ++ en_bytes))))

-- B29: each kind of record as it is read. `field v i` is fixed field i
abbrev pub field : List ℕ → ℕ → ℕ
field v i = get_or v i 0

abbrev pub hd : Reader (List ℕ)
hd = do
  c ← opened HD 4
  need (counts_fit (field c 0) (field c 1) (field c 2) (field c 3)) 3
  give c

abbrev pub nd : Reader Bool
nd = do
  v ← opened ND 1
  need (leb (field v 0) 1) 4
  give (eqb (field v 0) 1)

abbrev pub sp : ℕ → Reader Span
sp n = do
  v ← opened SP 3
  need (span_ends n (field v 0) (field v 1)) 4
  give (record { left = field v 0; right = field v 1; limit = field v 2 })

-- B30: the spans of a route from the first on that is not below n
unfoldable pub from_high : ℕ → List ℕ → List ℕ
from_high n [] = []
from_high n (x ∷ xs) = let r = from_high n xs in cond (ltb x n) r (x ∷ xs)

-- B30: and from the first on that the walk cannot pass, or else from the last
unfoldable pub from_stray : List Span → List ℕ → ℕ → List ℕ → List ℕ
from_stray sps met p [] = []
from_stray sps met p (x ∷ []) = x ∷ []
from_stray sps met p (x ∷ y ∷ ys) =
    let q = far (span_at sps x) p in
    let r = from_stray sps (q ∷ met) q (y ∷ ys) in cond (touches (span_at sps x) p && not (among q met)) r (x ∷ y ∷ ys)

-- B30: the spans of a route: 6, then 1, then 5, then 7
abbrev pub route : List Span → Ends → ℕ → Reader Route
route sps e len = do
  need (length_fits len) 6
  r ← fields len
  need_from (below (length sps) r) 5 (from_high (length sps) r)
  need_from (route_walks sps e r) 7 (from_stray sps (e.from ∷ []) e.from r)
  give (record { spans = r })

abbrev pub lp : List Bool → List Span → Reader Lightpath
lp ns sps = do
  v ← opened LP 3
  let e : Ends = record { from = field v 0; to = field v 1 }
  need (lightpath_ends ns e) 4
  r ← route sps e (field v 2)
  give (record { ends = e; route = r })

abbrev pub al : List Span → List Ends → List Alternative → Reader Alternative
al sps es before = do
  v ← opened AL 2
  need (follows (length es) (map lightpath_of before) (field v 0)) 8
  r ← route sps (ends_at es (field v 0)) (field v 1)
  give (record { lightpath = field v 0; route = r })

-- B31: nothing follows EN
abbrev pub at_end : List ℕ → Bool
at_end [] = true
at_end (x ∷ s) = false

abbrev pub nothing : Reader (Unit {0})
nothing here s = need (at_end s) 9 here s

-- B32: the book, front to back
unfoldable pub book : Reader RouteBook
book = do
  c ← begun hd
  ns ← each (λ before. nd) (field c 0) []
  begun (need (some ns) 10)
  sps ← each (λ before. sp (length ns)) (field c 1) []
  lps ← each (λ before. lp ns sps) (field c 2) []
  als ← each (al sps (map ends_of lps)) (field c 3) []
  begun (opened EN 0)
  begun nothing
  give (record { nodes = ns; spans = sps; lightpaths = lps; alternatives = als })

-- B24: what reading answers
pub data Reading : Type 0 where
  good : RouteBook → Reading
  refused : ℕ → ℕ → Reading

-- B25: the place is the number of bytes before the fault
abbrev pub placed : List ℕ → Got RouteBook → Reading
placed b (got m t) = good m
placed b (bad n p) = refused n (length b - length p)

unfoldable pub reading : List ℕ → Reading
reading b = placed b (book b b)
