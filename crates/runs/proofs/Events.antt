-- What happened, as a list: its definitions over a run, what each step does to who holds an object, and who holds one by the list.
pub mod UsesLaws
pub mod HoldSteps
pub mod HoldStores
pub mod EventsLaws
pub mod EventsInPlace
pub mod HeldByList
