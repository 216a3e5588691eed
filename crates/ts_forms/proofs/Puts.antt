-- What the calls put into a table, from what the calls within them put.
use Rattle.std.specs.Prelude.{◌≡◌, ℕ, ◌<◌, true, if◌then◌else◌, length, Result, Ok, Err, IfOk}
use Rattle.std.proofs.Common.{sym, ◌∙◌, ap, arith}
use Rattle.ts_base.specs.declared.letter.Letter.{Letter}
use Rattle.ts_regex.specs.Shape.{Shape, Cat, Alt, Star}
use Rattle.ts_regex.specs.Derivative.{nullable, derivative}
use Rattle.ts_regex.specs.NormalForm.{chain}
use Rattle.ts_forms.specs.declared.forms.Forms.{Forms}
use Rattle.ts_forms.specs.Nodes.{form_at}
use Rattle.ts_forms.specs.Tables.{shapes, IsPut}
use Rattle.ts_forms.proofs.Growth.{form_on, put_as, put_behind, put_before, put_both, put_one}

-- a part of expression i is in the table
pub part_there : (part i n : ℕ) → part < i → i < n → part < n
part_there part i n p q = omega (arith, p, q)

-- the expression all is op of two that were put in one after the other
pub put_whole : {E : Type 0} (op : Shape → Shape → Shape) (all : Shape) (f g h k : Forms) (r s : Shape) (x y : ℕ) (o : Result ℕ E) → op r s ≡ all →
    IsPut f g r x → IsPut g h s y → IfOk o (λ m. IsPut h k (op (form_at (shapes h) x) (form_at (shapes h) y)) m) → IfOk o (λ m. IsPut f k all m)
put_whole op all f g h k r s x y (Ok m) e p q n = put_as f k (op r s) all m e (put_both op f g h k r s x y m p q n)
put_whole op all f g h k r s x y (Err stop) e p q n = tt

-- the expression all is op of what F makes of two parts
pub put_of_two : {E : Type 0} (F : Shape → Shape) (op : Shape → Shape → Shape) (all : Shape) (f g h k : Forms) (r s x y : ℕ) (o : Result ℕ E) →
    op (F (form_at (shapes f) r)) (F (form_at (shapes f) s)) ≡ all → s < length (shapes f) → IsPut f g (F (form_at (shapes f) r)) x →
    IsPut g h (F (form_at (shapes g) s)) y → IfOk o (λ m. IsPut h k (op (form_at (shapes h) x) (form_at (shapes h) y)) m) → IfOk o (λ m. IsPut f k all m)
put_of_two F op all f g h k r s x y o e low p q n =
    put_whole op all f g h k (F (form_at (shapes f) r)) (F (form_at (shapes f) s)) x y o e p
    (put_as g h (F (form_at (shapes g) s)) (F (form_at (shapes f) s)) y (ap F (form_on (shapes f) (shapes g) s p.grows low)) q) n

-- the expression all is op of what was put in
pub put_of_one : {E : Type 0} (op : Shape → Shape) (all : Shape) (f g h : Forms) (r : Shape) (x : ℕ) (o : Result ℕ E) → op r ≡ all → IsPut f g r x →
    IfOk o (λ m. IsPut g h (op (form_at (shapes g) x)) m) → IfOk o (λ m. IsPut f h all m)
put_of_one op all f g h r x (Ok m) e p n = put_as f h (op r) all m e (put_one op f g h r x m p n)
put_of_one op all f g h r x (Err stop) e p n = tt

pub chain_of_cat : {E : Type 0} (f g h : Forms) (i j first rest k : ℕ) (o : Result ℕ E) →
    form_at (shapes f) i ≡ Cat (form_at (shapes f) first) (form_at (shapes f) rest) → first < length (shapes f) →
    IsPut f g (chain (form_at (shapes f) rest) (form_at (shapes f) j)) k →
    IfOk o (λ m. IsPut g h (Cat (form_at (shapes g) first) (form_at (shapes g) k)) m) →
    IfOk o (λ m. IsPut f h (chain (form_at (shapes f) i) (form_at (shapes f) j)) m)
chain_of_cat f g h i j first rest k (Ok m) e q p n =
    let t : Shape = form_at (shapes f) j in
    put_as f h (Cat (form_at (shapes f) first) (chain (form_at (shapes f) rest) t)) (chain (form_at (shapes f) i) t) m (sym (ap (λ z. chain z t) e))
    (put_behind (λ a b. Cat a b) f g h (chain (form_at (shapes f) rest) t) first k m q p n)
chain_of_cat f g h i j first rest k (Err stop) e q p n = tt

-- what a letter leaves

pub left_of_star : {E : Type 0} (f g h : Forms) (i r x : ℕ) (l : Letter) (o : Result ℕ E) → form_at (shapes f) i ≡ Star (form_at (shapes f) r) →
    i < length (shapes f) → IsPut f g (derivative (form_at (shapes f) r) l) x →
    IfOk o (λ m. IsPut g h (Cat (form_at (shapes g) x) (form_at (shapes g) i)) m) → IfOk o (λ m. IsPut f h (derivative (form_at (shapes f) i) l) m)
left_of_star f g h i r x l (Ok m) e low p n =
    let d : Shape = derivative (form_at (shapes f) r) l in
    put_as f h (Cat d (form_at (shapes f) i)) (derivative (form_at (shapes f) i) l) m (ap (λ z. Cat d z) e ∙ sym (ap (λ z. derivative z l) e))
    (put_before (λ a b. Cat a b) f g h d i x m low p n)
left_of_star f g h i r x l (Err stop) e low p n = tt

-- of r followed by s, where the empty word is one of r
pub left_of_both : {E : Type 0} (f g h k o : Forms) (i r s x y z : ℕ) (l : Letter) (result : Result ℕ E) →
    form_at (shapes f) i ≡ Cat (form_at (shapes f) r) (form_at (shapes f) s) → r < length (shapes f) → s < length (shapes f) →
    IsPut f g (derivative (form_at (shapes f) r) l) x → IsPut g h (Cat (form_at (shapes g) x) (form_at (shapes g) s)) y →
    nullable (form_at (shapes h) r) ≡ true → IsPut h k (derivative (form_at (shapes h) s) l) z →
    IfOk result (λ m. IsPut k o (Alt (form_at (shapes k) y) (form_at (shapes k) z)) m) →
    IfOk result (λ m. IsPut f o (derivative (form_at (shapes f) i) l) m)
left_of_both f g h k o i r s x y z l result e there low p n q t u =
    let a : Shape = form_at (shapes f) r in let b : Shape = form_at (shapes f) s in
    let first = put_before (λ c d. Cat c d) f g h (derivative a l) s x y low p n in
    let second = put_as h k (derivative (form_at (shapes h) s) l) (derivative b l) z
    (ap (λ c. derivative c l) (form_on (shapes f) (shapes h) s first.grows low)) t in
    let has : nullable a ≡ true = ap nullable (sym (form_on (shapes f) (shapes h) r first.grows there)) ∙ q in
    put_whole (λ c d. Alt c d) (derivative (form_at (shapes f) i) l) f h k o (Cat (derivative a l) b) (derivative b l) y z result
    (ap (λ c. if c then Alt (Cat (derivative a l) b) (derivative b l) else Cat (derivative a l) b) (sym has) ∙ sym (ap (λ c. derivative c l) e)) first second u
