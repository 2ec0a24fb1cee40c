mod HeldLemmas
mod RunTexts
mod DigitLemmas
mod PlaceText
mod NamedPlaces
mod BlockText
mod AccessPieces
