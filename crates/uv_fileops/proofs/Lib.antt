mod Touched
